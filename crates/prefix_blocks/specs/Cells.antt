-- How lists lie in cells. No public clause cites this module.
use Rattle.std.specs.Prelude.{◌≡◌, ◌≢◌, ◌⊎◌, ℕ, suc, ◌+◌, ◌-◌, ◌^◌, ◌<◌, ◌≤◌, ◌==◌, min, cond, ◌++◌, Bool, true, false, List, [], ◌∷◌, map, length, take, drop, get_or, Option, Some, None}
use Rattle.std.specs.Ordering.{nat_cmp}
use Rattle.std.specs.FinMap as map_of
use Rattle.std.specs.List.{insert}
use Rattle.std.specs.Option.{unwrap_or}
use Rattle.std.specs.Vec.{vec_len, vec_capacity}
use Rattle.std.specs.declared.alloc.Global.{Global}
use Rattle.std.specs.declared.vec.Vec.{Vec}
use Rattle.prefix_blocks.specs.Sizes.{order, size}
use Rattle.prefix_blocks.specs.declared.store.Cell.{Cell}
use Rattle.prefix_blocks.specs.declared.store.Cell.TheVariants.{First, Item, Free, Unused}

-- the number that names no block
abbrev pub none : ℕ
none = 0xFFFF_FFFF

-- the first free block of 2 ^ k cells
abbrev pub head : List ℕ → ℕ → ℕ
head free k = get_or free k none

module _ {A : Type 0} where
  -- the cell of this number; past the end none is used
  abbrev pub cell : List (Cell A) → ℕ → Cell A
  cell cells i = get_or cells i Unused

  -- whether a block begins here
  abbrev pub begins : Cell A → Bool
  begins (First _) = true
  begins (Item _) = false
  begins (Free _) = true
  begins Unused = false

  abbrev pub is_item : Cell A → Bool
  is_item (First _) = false
  is_item (Item _) = true
  is_item (Free _) = false
  is_item Unused = false

  abbrev pub is_first : Cell A → Bool
  is_first (First _) = true
  is_first (Item _) = false
  is_first (Free _) = false
  is_first Unused = false

  abbrev pub is_free : Cell A → Bool
  is_free (First _) = false
  is_free (Item _) = false
  is_free (Free _) = true
  is_free Unused = false

  abbrev pub demoted : Cell A → Cell A
  demoted (First a) = Item a
  demoted (Item a) = Item a
  demoted (Free t) = Free t
  demoted Unused = Unused

  abbrev pub promoted : Cell A → Cell A
  promoted (First a) = First a
  promoted (Item a) = First a
  promoted (Free t) = Free t
  promoted Unused = Unused

  -- the cell with another item
  abbrev pub refilled : Cell A → A → Cell A
  refilled (First _) w = First w
  refilled (Item _) w = Item w
  refilled (Free t) w = Free t
  refilled Unused w = Unused

  -- the item of a cell
  abbrev pub item_of : Cell A → Option A
  item_of (First a) = Some a
  item_of (Item a) = Some a
  item_of (Free _) = None
  item_of Unused = None

  -- the cells of a list
  abbrev pub laid : List A → List (Cell A)
  laid [] = []
  laid (a ∷ l) = First a ∷ map Item l

  -- the later items at the front
  abbrev pub items_front : List (Cell A) → List A
  items_front [] = []
  items_front (First _ ∷ cs) = []
  items_front (Item a ∷ cs) = a ∷ items_front cs
  items_front (Free _ ∷ cs) = []
  items_front (Unused ∷ cs) = []

  -- the list at the front, if one begins there
  abbrev pub list_front : List (Cell A) → Option (List A)
  list_front [] = None
  list_front (First a ∷ cs) = Some (a ∷ items_front cs)
  list_front (Item _ ∷ cs) = None
  list_front (Free _ ∷ cs) = None
  list_front (Unused ∷ cs) = None

  -- the list that begins at the cell of this number
  unfoldable pub list_at : List (Cell A) → ℕ → Option (List A)
  list_at cells n = list_front (drop n cells)

  -- the lists, where the first cell has the number n
  abbrev pub lists_from : ℕ → List (Cell A) → List (ℕ × List A)
  lists_from n [] = []
  lists_from n (First a ∷ cs) = (n, a ∷ items_front cs) ∷ lists_from (suc n) cs
  lists_from n (Item _ ∷ cs) = lists_from (suc n) cs
  lists_from n (Free _ ∷ cs) = lists_from (suc n) cs
  lists_from n (Unused ∷ cs) = lists_from (suc n) cs

  unfoldable pub lists_of : List (Cell A) → map_of.FinMap nat_cmp (List A)
  lists_of cells = map_of.from_entries (lists_from 0 cells)

  -- a list in a block: behind its items no cell is used
  pub record IsTaken (cells : List (Cell A)) (n extent : ℕ) (l : List A) : Type 0 where
    pub few : length l ≤ 32
    pub extent_is : extent ≡ size (length l)
    pub rest : (i : ℕ) → length l ≤ i → i < extent → cell cells (n + i) ≡ Unused

  -- a free block of 2 ^ k cells
  pub record IsVacant (cells : List (Cell A)) (n extent : ℕ) : Type 0 where
    pub k : ℕ
    pub order : k < 6
    pub extent_is : extent ≡ 2 ^ k
    pub rest : (i : ℕ) → 0 < i → i < extent → cell cells (n + i) ≡ Unused

  -- t names no block, or a free block of this extent
  abbrev pub IsLink : (ℕ → ℕ) → List (Cell A) → ℕ → ℕ → Type 0
  IsLink extent cells t z = t ≢ none → (is_free (cell cells t) ≡ true) × (extent t ≡ z)

  -- the blocks, where extent tells the cells of the block that begins at a number
  pub record IsTiled (extent : ℕ → ℕ) (cells : List (Cell A)) (free : List ℕ) : Type 0 where
    pub few : length cells < 2 ^ 32
    pub heads : length free ≡ 6
    pub within : (m : ℕ) → begins (cell cells m) ≡ true → (0 < extent m) × (m + extent m ≤ length cells)
    -- no other block begins in a block
    pub apart : (m i : ℕ) → begins (cell cells m) ≡ true → m < i → i < m + extent m → begins (cell cells i) ≡ false
    -- no list goes on behind its block
    pub ends : (m : ℕ) → begins (cell cells m) ≡ true → is_item (cell cells (m + extent m)) ≡ false
    pub taken : (m : ℕ) (l : List A) → list_at cells m ≡ Some l → IsTaken cells m (extent m) l
    pub vacant : (m : ℕ) → is_free (cell cells m) ≡ true → IsVacant cells m (extent m)
    pub linked : (m t : ℕ) → cell cells m ≡ Free t → IsLink extent cells t (extent m)
    pub headed : (k : ℕ) → IsLink extent cells (head free k) (2 ^ k)
    -- each free block is named once
    pub once : (m n t : ℕ) → cell cells m ≡ Free t → cell cells n ≡ Free t → t ≢ none → m ≡ n
    pub first : (k m : ℕ) → cell cells m ≡ Free (head free k) → head free k ≡ none

  pub record IsSound (cells : List (Cell A)) (free : List ℕ) : Type 0 where
    pub extent : ℕ → ℕ
    pub tiled : IsTiled extent cells free

  -- z cells from n on that no block reaches into, but one that begins at n
  pub record IsRegion (extent : ℕ → ℕ) (cells : List (Cell A)) (n z : ℕ) : Type 0 where
    pub some : 0 < z
    pub within : n + z ≤ length cells
    pub alone : (m : ℕ) → begins (cell cells m) ≡ true → m ≢ n → (m + extent m ≤ n) ⊎ (n + z ≤ m)
    pub ends : is_item (cell cells (n + z)) ≡ false

  pub record HasRegion (cells : List (Cell A)) (free : List ℕ) (n z : ℕ) : Type 0 where
    pub extent : ℕ → ℕ
    pub tiled : IsTiled extent cells free
    pub region : IsRegion extent cells n z

  -- two regions with no cell in both
  pub record HasRegions (cells : List (Cell A)) (free : List ℕ) (n z m y : ℕ) : Type 0 where
    pub extent : ℕ → ℕ
    pub tiled : IsTiled extent cells free
    pub region : IsRegion extent cells n z
    pub other : IsRegion extent cells m y
    pub apart : (n + z ≤ m) ⊎ (m + y ≤ n)

  -- z cells from n on hold this list and no other item
  abbrev pub Holds : List (Cell A) → ℕ → ℕ → List A → Type 0
  Holds cells n z l = (i : ℕ) → i < z → cell cells (n + i) ≡ cell (laid l) i

  -- the items of these cells
  abbrev pub items_of : List (Cell A) → List A
  items_of [] = []
  items_of (First a ∷ cs) = a ∷ items_of cs
  items_of (Item a ∷ cs) = a ∷ items_of cs
  items_of (Free _ ∷ cs) = items_of cs
  items_of (Unused ∷ cs) = items_of cs

  -- so many cells from a number on, and the cells with others in their place
  abbrev pub part : List (Cell A) → ℕ → ℕ → List (Cell A)
  part cells n count = take count (drop n cells)

  abbrev pub with_part : List (Cell A) → ℕ → ℕ → List (Cell A) → List (Cell A)
  with_part cells n count others = take n cells ++ (others ++ drop count (drop n cells))

  -- a list, and one more cell that is not used
  abbrev pub IsAllBut : List (Cell A) → Type 0
  IsAllBut cells = cells ≡ laid (items_of cells) ++ Unused ∷ []

  abbrev pub IsPutIn : List (Cell A) → List (Cell A) → ℕ → A → Type 0
  IsPutIn old new place item = new ≡ laid (insert (items_of old) place item)

  -- the list of this many items at a number
  abbrev pub held : List (Cell A) → ℕ → ℕ → List A
  held cells at count = cond (count == 0) [] (unwrap_or (list_at cells at) [])

  -- the lists, but for that list
  abbrev pub list_but : List (Cell A) → ℕ → ℕ → ℕ → Option (List A)
  list_but cells at count m = cond (count == 0) (list_at cells m) (cond (m == at) None (list_at cells m))

  -- so many more cells need no memory
  abbrev pub HasCells : Vec (Cell A) Global → ℕ → Type 0
  HasCells cells count = vec_len cells + count ≤ min (vec_capacity cells) (2 ^ 32 - 1)

  -- a list that may be empty: then there is none
  abbrev pub listed : List A → Option (List A)
  listed [] = None
  listed (a ∷ l) = Some (a ∷ l)

  -- the same lists
  abbrev pub SameLists : List (Cell A) → List (Cell A) → Type 0
  SameLists old new = (m : ℕ) → list_at new m ≡ list_at old m

  -- the z cells from n on are a free block now, and the other regions stay
  pub record IsFreed (old : List (Cell A)) (old_free : List ℕ) (new : List (Cell A)) (free : List ℕ) (n z : ℕ) : Type 0 where
    pub sound : IsSound new free
    pub regions : (m y : ℕ) → HasRegions old old_free n z m y → HasRegion new free m y
    pub same : (i : ℕ) → i ≢ n → cell new i ≡ cell old i
    pub len : length new ≡ length old
    pub lists : SameLists old new

  -- so many cells stand at `to` now, and those from `from` on are what stood at `to`
  pub record IsMoved (old new : List (Cell A)) (from to count : ℕ) : Type 0 where
    pub len : length new ≡ length old
    pub moved : (i : ℕ) → i < count → cell new (to + i) ≡ cell old (from + i)
    pub left : (i : ℕ) → i < count → cell new (from + i) ≡ cell old (to + i)
    pub same : (j : ℕ) → (j < from) ⊎ (from + count ≤ j) → (j < to) ⊎ (to + count ≤ j) → cell new j ≡ cell old j

  -- a list whose block of 2 ^ o cells is full, and a region of twice the size with no item
  pub record CanOutgrow (cells : List (Cell A)) (free : List ℕ) (at to count o : ℕ) : Type 0 where
    pub some : 0 < count
    pub few : count < 32
    pub order_is : o ≡ order count
    pub grows : order (count + 1) ≢ order count
    pub list : length (held cells at count) ≡ count
    pub region : HasRegion cells free to (2 ^ (o + 1))
    pub empty : Holds cells to (2 ^ (o + 1)) []

  -- there is a region of z cells with no item, and the lists are the same
  pub record HasTaken (old new : List (Cell A)) (free : List ℕ) (n z : ℕ) : Type 0 where
    pub region : HasRegion new free n z
    pub empty : Holds new n z []
    pub lists : SameLists old new

  -- the list of so many items at `at` stands at n, in a region with room for one more
  pub record HasGrown (old new : List (Cell A)) (free : List ℕ) (at count n : ℕ) : Type 0 where
    pub region : HasRegion new free n (size (count + 1))
    pub holds : Holds new n (size (count + 1)) (held old at count)
    pub others : (m : ℕ) → m ≢ n → list_at new m ≡ list_but old at count m
    pub fresh : list_but old at count n ≡ None

  -- that list has one more item, at n
  pub record HasInserted (old new : List (Cell A)) (free : List ℕ) (at count n place : ℕ) (item : A) : Type 0 where
    pub sound : IsSound new free
    pub list : list_at new n ≡ Some (insert (held old at count) place item)
    pub others : (m : ℕ) → m ≢ n → list_at new m ≡ list_but old at count m
    pub fresh : list_but old at count n ≡ None

  -- the cell of an item at a place of its list
  abbrev pub placed : ℕ → A → Cell A
  placed place a = cond (place == 0) (First a) (Item a)

  -- so many cells from a number on are not used
  abbrev pub AreUnused : List (Cell A) → ℕ → ℕ → Type 0
  AreUnused cells n count = (i : ℕ) → i < count → cell cells (n + i) ≡ Unused

  -- the cells from n on are those of this list, and the others are as they were
  pub record IsLaid (old new : List (Cell A)) (n : ℕ) (l : List A) : Type 0 where
    pub len : length new ≡ length old
    pub outside : (j : ℕ) → (j < n) ⊎ (n + length l ≤ j) → cell new j ≡ cell old j
    pub holds : (i : ℕ) → i < length l → cell new (n + i) ≡ cell (laid l) i

  -- there is one more list, at n
  pub record HasAdded (old new : List (Cell A)) (free : List ℕ) (n : ℕ) (l : List A) : Type 0 where
    pub sound : IsSound new free
    pub list : list_at new n ≡ Some l
    pub others : (m : ℕ) → m ≢ n → list_at new m ≡ list_at old m
    pub fresh : list_at old n ≡ None

  -- a list of so many items at a number, in a block that held one more: what it does not need is a region
  pub record CanRelease (cells : List (Cell A)) (free : List ℕ) (at left : ℕ) : Type 0 where
    pub few : left < 32
    pub sound : IsSound cells free
    pub all : left ≡ 0 → HasRegion cells free at 1 × Holds cells at 1 []
    pub half : 0 < left → order (left + 1) ≢ order left → HasRegion cells free (at + left) left × Holds cells (at + left) left []
