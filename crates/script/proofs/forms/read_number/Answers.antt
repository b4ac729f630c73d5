use Rattle.std.proofs.Common.{refl, arith}
use Rattle.std.proofs.lemmas.List.{take_all}
use Rattle.script.proofs.Numerals.{all_digits_true, all_digits_false, below_power, more, fits}
use Rattle.script.proofs.forms.read_number.Goals as goal

pub overflow_mul-n : goal.overflow_mul-n
overflow_mul-n c =
    let fit = fits _ _ _ _ _ _ _ c.args.field.now c.loop-b-test.true c.from.ensures c.in_ok-digit.ensures.value refl c.from-in-loop-b.ensures c.loop-b.invariant (omega arith) (omega arith) (omega arith) in
    omega arith

pub overflow_add-n : goal.overflow_add-n
overflow_add-n c =
    let fit = fits _ _ _ _ _ _ _ c.args.field.now c.loop-b-test.true c.from.ensures c.in_ok-digit.ensures.value c.from-in-loop-b-2.ensures c.from-in-loop-b.ensures c.loop-b.invariant (omega arith) (omega arith) (omega arith) in
    omega arith

pub loop-b-preserved : goal.loop-b-preserved
loop-b-preserved c =
    more _ _ _ _ _ _ _ c.args.field.now c.loop-b-test.true c.from.ensures c.in_ok-digit.ensures.value c.from-in-loop-b-2.ensures c.from-in-loop-b.ensures c.loop-b.invariant

pub returns-in_err-digit-clause-value : goal.returns-in_err-digit-clause-value
returns-in_err-digit-clause-value c =
    let none = all_digits_false c.args.radix _ _ c.args.field.now c.loop-b-test.true c.from.ensures c.in_err-digit.ensures.value in
    grind arith

pub returns : goal.returns
returns c =
    let reads = rw (take_all c.loop-b.b-index c.args.field.now (omega arith)) at c.loop-b.invariant in
    let all = all_digits_true c.args.radix c.args.field.now reads.1 in
    record { value = grind arith; bound = below_power _ _ _ c.args.field.now (omega arith) (omega arith) reads }
