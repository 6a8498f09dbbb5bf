-- A block gets room for one more item: a new one, the same, or one of twice the size.
use Rattle.std.specs.Prelude.{◌≡◌, ◌≢◌, ℕ, ◌+◌, ◌^◌, ◌<◌, ◌==◌, cond, List, [], ◌∷◌, ◌++◌, length, take, drop, Option, Some, None}
use Rattle.std.proofs.Common.{refl, sym, ap, ◌∙◌, subst, arith}
use Rattle.std.specs.Option.{unwrap_or}
use Rattle.std.proofs.lemmas.Bool.{cases_eq, cases_lt, eq-eqb, ne_eqb}
use Rattle.std.proofs.Math.Logic.{⊎_elim}
use Rattle.prefix_blocks.specs.Sizes.{order, size, cells_needed}
use Rattle.prefix_blocks.specs.declared.store.Cell.{Cell}
use Rattle.prefix_blocks.specs.Cells.{cell, is_first, laid, list_at, held, list_but, IsSound, IsRegion, HasRegion, HasRegions, Holds, SameLists, IsFreed, IsMoved, HasTaken, CanOutgrow, HasGrown}
use Rattle.prefix_blocks.proofs.SizeLaws.{sized, is_full, same_size, size_of_one}
use Rattle.prefix_blocks.proofs.CellLaws.{list_lies, list_begins, no_list, laid_past}
use Rattle.prefix_blocks.proofs.Tilings.{block_region}
use Rattle.prefix_blocks.proofs.Regions.{at_zero}
use Rattle.prefix_blocks.proofs.Frees.{CanMove, HasMoved, moved}

-- the sizes where a full block is outgrown
pub record IsOutgrown (c o : ℕ) : Type 0 where
  pub here : 2 ^ o ≡ c
  pub next : 2 ^ (o + 1) ≡ c + c
  pub size_is : size c ≡ c
  pub next_size : size (c + 1) ≡ c + c
  pub within : o + 1 < 6
  pub needed : cells_needed c ≡ c + c

pub outgrown : (c o p : ℕ) → o ≡ order c → p ≡ order (c + 1) → 0 < c → c < 32 → p ≢ o → IsOutgrown c o
outgrown c o p is next some few ne =
    let full = is_full c some few (λ e. ne (next ∙ e ∙ sym is)) in
    let here = sized c (omega arith) in
    let there = sized (c + 1) (omega arith) in
    record {
      here = ap (λ n. 2 ^ n) is ∙ sym here.power ∙ full.size_is;
      next = ap (λ n. 2 ^ n) (ap (λ n. n + 1) is ∙ sym full.next_order) ∙ sym there.power ∙ full.next;
      size_is = full.size_is;
      next_size = full.next;
      within = let a = there.most in let b = full.next_order in omega arith;
      needed = full.needed;
    }

module _ {A : Type 0} where
  pub held_none : (cells : List (Cell A)) (at count : ℕ) → count ≡ 0 → held cells at count ≡ []
  held_none cells at count e = ap (λ b. cond b [] (unwrap_or (list_at cells at) [])) (eq-eqb count 0 e)

  pub some_list : (o : Option (List A)) (count : ℕ) → 0 < count → length (unwrap_or o []) ≡ count → o ≡ Some (unwrap_or o [])
  some_list None count some len = absurd (omega (arith, len))
  some_list (Some l) count some len = refl

  pub held_is : (cells : List (Cell A)) (at count : ℕ) → 0 < count → held cells at count ≡ unwrap_or (list_at cells at) []
  held_is cells at count some = ap (λ b. cond b [] (unwrap_or (list_at cells at) [])) (ne_eqb count 0 (λ e. omega arith))

  pub held_list : (cells : List (Cell A)) (at count : ℕ) → 0 < count → length (held cells at count) ≡ count → list_at cells at ≡ Some (held cells at count)
  held_list cells at count some len =
      some_list (list_at cells at) count some (ap length (sym (held_is cells at count some)) ∙ len) ∙ ap Some (sym (held_is cells at count some))

  pub but_none : (cells : List (Cell A)) (at count m : ℕ) → count ≡ 0 → list_but cells at count m ≡ list_at cells m
  but_none cells at count m e = ap (λ b. cond b (list_at cells m) (cond (m == at) None (list_at cells m))) (eq-eqb count 0 e)

  but_some : (cells : List (Cell A)) (at count m : ℕ) → 0 < count → list_but cells at count m ≡ cond (m == at) None (list_at cells m)
  but_some cells at count m some = ap (λ b. cond b (list_at cells m) (cond (m == at) None (list_at cells m))) (ne_eqb count 0 (λ e. omega arith))

  pub but_here : (cells : List (Cell A)) (at count m : ℕ) → 0 < count → m ≡ at → list_but cells at count m ≡ None
  but_here cells at count m some e = but_some cells at count m some ∙ ap (λ b. cond b None (list_at cells m)) (eq-eqb m at e)

  pub but_other : (cells : List (Cell A)) (at count m : ℕ) → m ≢ at → list_but cells at count m ≡ list_at cells m
  but_other cells at count m ne =
      ⊎_elim (λ none. but_none cells at count m none)
      (λ some. but_some cells at count m (omega arith) ∙ ap (λ b. cond b None (list_at cells m)) (ne_eqb m at ne))
      (cases_eq count 0)

  -- where nothing is used no list begins
  pub empty_none : (cells : List (Cell A)) (n z : ℕ) → 0 < z → Holds cells n z [] → list_at cells n ≡ None
  empty_none cells n z some empty = no_list cells n (ap is_first (sym (at_zero cells n) ∙ empty 0 some))

  -- a new block for one item
  pub new_grown : (old new : List (Cell A)) (free : List ℕ) (at n count : ℕ) → count ≡ 0 → HasTaken old new free n 1 → HasGrown old new free at count n
  new_grown old new free at n count none taken =
      let one : size (count + 1) ≡ 1 = ap (λ c. size (c + 1)) none ∙ size_of_one in
      record {
        region = subst (HasRegion new free n) (sym one) taken.region;
        holds = λ i h. taken.empty i (omega arith) ∙ ap (λ l. cell (laid l) i) (sym (held_none old at count none));
        others = λ m ne. taken.lists m ∙ sym (but_none old at count m none);
        fresh = but_none old at count n none ∙ sym (taken.lists n) ∙ empty_none new n 1 (omega arith) taken.empty;
      }

  -- the same block
  pub taken_holds : (cells : List (Cell A)) (free : List ℕ) (at : ℕ) (l : List A) → (sound : IsSound cells free) → list_at cells at ≡ Some l → Holds cells at (sound.extent at) l
  taken_holds cells free at l sound list i h =
      ⊎_elim (λ less. (list_lies cells at l list).same i less)
      (λ past. (sound.tiled.taken at l list).rest i past h ∙ sym (laid_past l i past))
      (cases_lt i (length l))

  pub kept_grown : (cells : List (Cell A)) (free : List ℕ) (at count : ℕ) → IsSound cells free → 0 < count → count < 32 → length (held cells at count) ≡ count
      → order (count + 1) ≡ order count → HasGrown cells cells free at count at
  kept_grown cells free at count sound some few len same =
      let l = held cells at count in
      let list = held_list cells at count some len in
      let e : sound.extent at ≡ size (count + 1) = (sound.tiled.taken at l list).extent_is ∙ ap size len ∙ sym (same_size count few same) in
      record {
        region = record {
          extent = sound.extent;
          tiled = sound.tiled;
          region = subst (IsRegion sound.extent cells at) e (block_region sound.extent cells free at sound.tiled (list_begins cells at l list));
        };
        holds = λ i h. taken_holds cells free at l sound list i (omega arith);
        others = λ m ne. sym (but_other cells at count m ne);
        fresh = but_here cells at count at some refl;
      }
  -- a block of twice the size

module _ {A : Type 0} (cells : List (Cell A)) (free : List ℕ) (at to count o : ℕ) (can : CanOutgrow cells free at to count o) where
  pub outgrown_by : IsOutgrown count o
  outgrown_by = outgrown count o (order (count + 1)) can.order_is refl can.some can.few (λ e. can.grows (e ∙ can.order_is))

  pub can_move : CanMove can.region.extent cells free at to count (2 ^ (o + 1)) (held cells at count)
  can_move = let grows = outgrown_by in record {
    tiled = can.region.tiled;
    region = can.region.region;
    empty = can.empty;
    list = held_list cells at count can.some can.list;
    count = can.list;
    full = grows.size_is;
    twice = grows.next;
  }

module _ {A : Type 0} (cells shifted : List (Cell A)) (free : List ℕ) (at to count o : ℕ) (can : CanOutgrow cells free at to count o) (is : IsMoved cells shifted at to count) where
  in_place : HasMoved cells shifted free at to count (2 ^ (o + 1)) (held cells at count)
  in_place = moved can.region.extent cells shifted free at to count (2 ^ (o + 1)) (held cells at count) (can_move cells free at to count o can) is

  pub moved_region : HasRegion shifted free at (2 ^ o)
  moved_region =
      let two = in_place.regions in
      subst (HasRegion shifted free at) (sym (outgrown_by cells free at to count o can).here) (record { extent = two.extent; tiled = two.tiled; region = two.region })

  pub moved_empty : Holds shifted at (2 ^ o) []
  moved_empty i h =
      let here = (outgrown_by cells free at to count o can).here in
      in_place.empty i (omega arith)

  pub has_outgrown : (new : List (Cell A)) (last : List ℕ) → IsFreed shifted free new last at (2 ^ o) → HasGrown cells new last at count to
  has_outgrown new last f =
      let grows = outgrown_by cells free at to count o can in
      let m = in_place in
      let z : 2 ^ (o + 1) ≡ size (count + 1) = grows.next ∙ sym grows.next_size in
      let two : HasRegions shifted free at (2 ^ o) to (2 ^ (o + 1)) = subst (λ c. HasRegions shifted free at c to (2 ^ (o + 1))) (sym grows.here) m.regions in
      let some = can.some in
      record {
        region = subst (HasRegion new last to) z (f.regions to (2 ^ (o + 1)) two);
        holds = λ i h. f.same (to + i) (λ e. let apart = m.regions.apart in ⊎_elim (λ before. omega arith) (λ after. omega arith) apart) ∙ m.holds i (omega arith);
        others = λ q ne. ⊎_elim
            (λ here. f.lists q ∙ ap (list_at shifted) here ∙ m.none_at ∙ sym (but_here cells at count q some here))
            (λ far. f.lists q ∙ m.others q far ne ∙ sym (but_other cells at count q far))
            (cases_eq q at);
        fresh = but_other cells at count to (λ e. m.differ (sym e)) ∙ empty_none cells to (2 ^ (o + 1)) (let n = grows.next in omega arith) can.empty;
      }

module _ {A : Type 0} where
  -- the same lists
  pub held_same : (old new : List (Cell A)) (at count : ℕ) → SameLists old new → held new at count ≡ held old at count
  held_same old new at count same = ap (λ o. cond (count == 0) [] (unwrap_or o [])) (same at)

  pub but_same : (old new : List (Cell A)) (at count m : ℕ) → SameLists old new → list_but new at count m ≡ list_but old at count m
  but_same old new at count m same = ap (λ o. cond (count == 0) o (cond (m == at) None o)) (same m)

  pub can_outgrow : (old cells : List (Cell A)) (free : List ℕ) (at to count o p : ℕ) → 0 < count → count < 32 → o ≡ order count → p ≡ order (count + 1) → p ≢ o → length (held old at count) ≡ count
      → HasTaken old cells free to (2 ^ (o + 1)) → CanOutgrow cells free at to count o
  can_outgrow old cells free at to count o p some few is next ne len taken = record {
    some = some;
    few = few;
    order_is = is;
    grows = λ e. ne (next ∙ e ∙ sym is);
    list = ap length (held_same old cells at count taken.lists) ∙ len;
    region = taken.region;
    empty = taken.empty;
  }

  -- what is left of a vector whose cells were all lent
  whole_cells : (xs ys : List (Cell A)) → length ys ≡ length xs → take (length xs) (xs ++ drop (length xs) ys) ≡ xs
  whole_cells [] [] e = refl
  whole_cells [] (y ∷ ys) e = absurd (omega (arith, e))
  whole_cells (x ∷ xs) [] e = absurd (omega (arith, e))
  whole_cells (x ∷ xs) (y ∷ ys) e = ap (λ z. x ∷ z) (whole_cells xs ys (omega (arith, e)))

  pub whole : (n : ℕ) (xs ys : List (Cell A)) → n ≡ length xs → length ys ≡ length xs → xs ≡ take n (xs ++ drop (length xs) ys)
  whole n xs ys e len = sym (ap (λ n. take n (xs ++ drop (length xs) ys)) e ∙ whole_cells xs ys len)

  -- a block was taken before, in a vector that lent its cells then
  pub outgrown_grown : (old taken lent new : List (Cell A)) (middle free : List ℕ) (at to count z len : ℕ) → HasTaken old taken middle to z → lent ≡ taken → len ≡ length taken → length new ≡ length lent
      → HasGrown lent new free at count to → HasGrown old (take len (new ++ drop (length new) taken)) free at count to
  outgrown_grown old taken lent new middle free at to count z len had same long kept has =
      let size : length new ≡ length taken = kept ∙ ap length same in
      let lists : SameLists old lent = λ m. ap (λ cells. list_at cells m) same ∙ had.lists m in
      subst (λ cells. HasGrown old cells free at count to) (whole len new taken (long ∙ sym size) (sym size)) (record {
        region = has.region;
        holds = λ i h. has.holds i h ∙ ap (λ l. cell (laid l) i) (held_same old lent at count lists);
        others = λ m ne. has.others m ne ∙ but_same old lent at count m lists;
        fresh = sym (but_same old lent at count to lists) ∙ has.fresh;
      })
