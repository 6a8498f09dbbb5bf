use Rattle.std.proofs.Common.{rules, arith, ◌≡◌, ◌∷◌, ◌-◌, ◌*◌, ◌/◌, ◌%◌, ◌^◌, false, sym, ◌∙◌, ap}
use Rattle.std.specs.Fmt.{digit_glyph}
use Rattle.prefix_text.specs.Texts.{hex_digits}
use Rattle.prefix_text.proofs.TextLaws.{digits_from, digit_written, digits_written, stays_through}
use Rattle.prefix_text.proofs.text.push_hexadecimal.Goals as goal

pub loop-place-preserved : goal.loop-place-preserved
loop-place-preserved c =
    let e = c.in_ok-push_bytes.ensures in
    let digit : c.hexadecimal_digit.result ≡ digit_glyph false (c.args.number / 2 ^ (4 * (c.loop-place.place - 1)) % 16) = search rules in
    let first = digits_from c.loop-place.place c.args.number (omega arith) in
    record {
      left = digit_written c.loop-place.text.items c.push_bytes.new.text.items (hex_digits (c.loop-place.place - 1) c.args.number) (hex_digits c.loop-place.place c.args.number) _ c.hexadecimal_digit.result e.exact (first ∙ ap (λ d. d ∷ hex_digits (c.loop-place.place - 1) c.args.number) (sym digit)) c.loop-place.invariant.left;
      kept = stays_through c.loop-place.invariant.kept e.kept;
      within = omega arith;
    }

pub returns-clause-exact : goal.returns-clause-exact
returns-clause-exact c = digits_written c.loop-place.text.items _ c.loop-place.place c.args.number c.loop-place-test.false c.loop-place.invariant.left
