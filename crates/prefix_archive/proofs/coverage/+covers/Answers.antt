use Rattle.std.proofs.Common.{◌≡◌, ◌++◌, ◌∷◌, [], true, false, refl, ◌∙◌}
use Rattle.std.specs.FinMap.{get}
use Rattle.prefix_archive.proofs.Halves.{one_more}
use Rattle.prefix_archive.proofs.CoverageLaws.{none_stored, stored_here, no_end, both_halves, one_half, no_view, own_value, half_view, is_told, absent}
use Rattle.prefix_archive.proofs.coverage.+covers.Goals as goal

pub returns-in_default : goal.returns-in_default
returns-in_default g t c = λ m s stands.
    (λ f. absurd (cc), λ all. absurd (none_stored m s c.args.left (no_view g.V.TrieView.seen m c.args.view s stands c.in_default.is) all))

pub returns-then-is_some : goal.returns-then-is_some
returns-then-is_some g t c = λ m s stands.
    let here = own_value g.V.TrieView.seen m c.args.view s stands c.in-Some.view c.in-Some.is in
    let some = is_told g.V.TrieView.value_of c.value.result (get m s) c.is_some.result (c.value.ensures ∙ here) c.is_some.ensures ∙ c.if-is_some.true in
    (λ _. stored_here m s c.args.left some, λ _. refl)

pub returns-then-left-eq0 : goal.returns-then-left-eq0
returns-then-left-eq0 g t c = λ m s stands.
    let here = own_value g.V.TrieView.seen m c.args.view s stands c.in-Some.view c.in-Some.is in
    let none = absent (get m s) (is_told g.V.TrieView.value_of c.value.result (get m s) c.is_some.result (c.value.ensures ∙ here) c.is_some.ensures ∙ c.if-is_some.false) in
    (λ f. absurd (cc), λ all. absurd (no_end m s c.args.left c.if-left-eq0.true none all))

pub returns-then-not-low : goal.returns-then-not-low
returns-then-not-low g t c = λ m s stands.
    let seen = g.V.TrieView.seen in
    let here = own_value seen m c.args.view s stands c.in-Some.view c.in-Some.is in
    let none = absent (get m s) (is_told g.V.TrieView.value_of c.value.result (get m s) c.is_some.result (c.value.ensures ∙ here) c.is_some.ensures ∙ c.if-is_some.false) in
    let deep = one_more c.args.left c.if-left-eq0.false in
    let low = c.covers-low.ensures m (s ++ false ∷ []) (half_view seen m c.args.view s stands c.in-Some.view false c.half.result c.in-Some.is c.half.ensures) in
    (λ f. absurd (cc), λ all. absurd (let t = low.1 (one_half m s c.args.left _ false deep none all) in let f = c.if-not-low.true in cc))

pub returns : goal.returns
returns g t c = λ m s stands.
    let seen = g.V.TrieView.seen in
    let here = own_value seen m c.args.view s stands c.in-Some.view c.in-Some.is in
    let none = absent (get m s) (is_told g.V.TrieView.value_of c.value.result (get m s) c.is_some.result (c.value.ensures ∙ here) c.is_some.ensures ∙ c.if-is_some.false) in
    let deep = one_more c.args.left c.if-left-eq0.false in
    let low = c.covers-low.ensures m (s ++ false ∷ []) (half_view seen m c.args.view s stands c.in-Some.view false c.half.result c.in-Some.is c.half.ensures) in
    let high = c.covers.ensures m (s ++ true ∷ []) (half_view seen m c.args.view s stands c.in-Some.view true c.half-2.result c.in-Some.is c.half-2.ensures) in
    let first : c.covers-low.result ≡ true = c.if-not-low.false in (
      λ t. both_halves m s c.args.left _ deep none (low.0 first) (high.0 t),
      λ all. high.1 (one_half m s c.args.left _ true deep none all),
    )
