use Rattle.std.proofs.Common.{sym, ap, ◌∙◌, inl, inr}
use Rattle.std.specs.FinMap as map
use Rattle.prefix_model.specs.TableViews.{TableView, key_of}
use Rattle.prefix_table.specs.TableLends.{with_value}
use Rattle.prefix_table.proofs.TrieViews.{get_entry}
use Rattle.prefix_table.proofs.TableLent.{lent_view, lent_value, lent_len}
use Rattle.prefix_table.proofs.tables.Table.get_mut.Goals as goal

pub invariant_of-self-lent : goal.invariant_of-self-lent
invariant_of-self-lent g c w =
    let t = c.self.inside.trie in
    let key = key_of (g.R.Bits.bits c.args.key) c.args.len in (
      (c.in-Some.ensures.written w).trie,
      c.self.invariant.1 ∙ lent_len t c.self.invariant.0 key c.in-Some.at.block c.in-Some.at.place c.in-Some.ensures w,
      c.self.invariant.2,
    )

pub returns-in-Some : goal.returns-in-Some
returns-in-Some g c =
    let t = c.self.inside.trie in
    let key = key_of (g.R.Bits.bits c.args.key) c.args.len in (
      (λ j. inl (c.item_mut.result.ghost_name, λ w. (lent_view t c.self.invariant.0 key c.in-Some.at.block c.in-Some.at.place c.in-Some.ensures w ∙ ap (λ (v : TableView g.row.T.Denot). with_value v key w) c.self.view_is) j)),
      record {
        writes_back = tt;
        value = sym (ap (λ (v : TableView g.row.T.Denot). map.get v.entries key) (sym c.self.view_is) ∙ lent_value t c.self.invariant.0 key c.in-Some.at.block c.in-Some.at.place c.in-Some.ensures ∙ c.item_mut.ensures.value);
      },
    )

pub returns-in-None : goal.returns-in-None
returns-in-None g c =
    let t = c.self.inside.trie in
    let key = key_of (g.R.Bits.bits c.args.key) c.args.len in (
      (λ j. inr (c.self.view_is j)),
      record { writes_back = tt; value = sym (ap (λ (v : TableView g.row.T.Denot). map.get v.entries key) (sym c.self.view_is) ∙ get_entry t c.self.invariant.0 key ∙ c.in-None.ensures) },
    )
