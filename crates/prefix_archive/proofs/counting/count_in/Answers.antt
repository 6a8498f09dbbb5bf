use Rattle.std.proofs.Common.{◌^◌, ◌<◌, ℕ, [], sym, ap, ◌∙◌, subst, arith}
use Rattle.prefix_model.specs.Coverage.{answered}
use Rattle.prefix_archive.specs.Coverage.{answers_from}
use Rattle.prefix_archive.proofs.Cursors.{root_kept}
use Rattle.prefix_archive.proofs.counting.count_in.Goals as goal

pub count_node-requires : goal.count_node-requires
count_node-requires g c =
    let m = c.args.archive.now.table.entries in
    record {
      node = c.root_record-root.ensures.root;
      kept = root_kept m;
      depth = omega arith;
      left = let e = c.WIDTH.ensures in let l = g.met.P.R.Bits.greatest_width_law in omega (arith, e, l);
      few = subst (λ (n : ℕ). answered n (answers_from m []) < 2 ^ 128) (sym c.WIDTH.ensures) c.requires.few;
    }

pub returns : goal.returns
returns g c = c.count_node.ensures ∙ ap (λ n. answered n (answers_from c.args.archive.now.table.entries [])) c.WIDTH.ensures
