use Rattle.std.proofs.Common.{◌+◌, ℕ, List, drop, Some, None, slice_index_or, sym, ◌∙◌}
use Rattle.std.proofs.lemmas.List.{at_drop_more, drop_all}
use Rattle.command_line.specs.Number.{at_most, number_from}
use Rattle.command_line.proofs.NumberLemmas.{next_digit, digit_within, no_digit}
use Rattle.command_line.proofs.number.number_from.Goals as goal

pub returns-in_err-number-clause-number : goal.returns-in_err-number-clause-number
returns-in_err-number-clause-number c =
    let i = c.loop-byte.byte-index in
    let ds = c.args.digits.now in
    c.from_residual.ensures ∙ sym (c.loop-byte.invariant.same ∙ at_drop_more (λ (bs : List ℕ). at_most c.args.most (number_from c.loop-byte.number bs)) ds i 0 c.loop-byte-test.true
    ∙ next_digit c.args.most c.loop-byte.number (slice_index_or ds i 0) (drop (i + 1) ds) None (sym c.with_digit.ensures ∙ c.in_err-number.was))

pub loop-byte-preserved : goal.loop-byte-preserved
loop-byte-preserved c =
    let i = c.loop-byte.byte-index in
    let ds = c.args.digits.now in
    let more = sym c.with_digit.ensures ∙ c.in_ok-number.was in
    record {
      within = digit_within c.args.most c.loop-byte.number (slice_index_or ds i 0) c.in_ok-number.number more;
      same = c.loop-byte.invariant.same ∙ at_drop_more (λ (bs : List ℕ). at_most c.args.most (number_from c.loop-byte.number bs)) ds i 0 c.loop-byte-test.true
          ∙ next_digit c.args.most c.loop-byte.number (slice_index_or ds i 0) (drop (i + 1) ds) (Some c.in_ok-number.number) more;
    }

pub returns-clause-number : goal.returns-clause-number
returns-clause-number c =
    sym (c.loop-byte.invariant.same ∙ no_digit c.args.most c.loop-byte.number (drop c.loop-byte.byte-index c.args.digits.now) c.loop-byte.invariant.within
    (drop_all c.loop-byte.byte-index c.args.digits.now c.loop-byte-test.false))
