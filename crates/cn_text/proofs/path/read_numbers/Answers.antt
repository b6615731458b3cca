use Rattle.std.proofs.Common.{◌≡◌, ◌-◌, ◌<◌, true, false, List, length, Ok, sym, ap, subst, ◌∙◌, arith}
use Rattle.cn_lists.proofs.Loops.{before_with, with_front}
use Rattle.cn_base.specs.declared.ids.Asn.{Asn}
use Rattle.cn_text.specs.Atoms.{further_at, numbers_at}
use Rattle.cn_text.proofs.Further.{starts, no_start, goes_on, refused, too_many, is_done, refuses, rest_is}
use Rattle.cn_text.proofs.path.read_numbers.Goals as goal

pub returns-in_err-first-clause-value : goal.returns-in_err-first-clause-value
returns-in_err-first-clause-value c =
    refuses c.from_residual.result _ (numbers_at c.args.bytes.now c.args.at)
    c.from_residual.ensures.0 c.from_residual.ensures.1
    (no_start c.args.bytes.now c.args.at _ (sym c.in_err-first.ensures.value))

pub loop-numbers-init : goal.loop-numbers-init
loop-numbers-init c =
    let bytes = c.args.bytes.now in
    let P : List Asn → Type 0 =
    λ ns. with_front before_with ns (further_at bytes (255 - length ns) c.in_ok-first.end)
    ≡ numbers_at bytes c.args.at in
    let items = c.in_ok-numbers.ensures.items in
    record {
      within = c.in_ok-first.ensures.within.1;
      some = omega (arith, ap length items);
      short = omega (arith, ap length items);
      same = subst P (sym items) (starts bytes c.args.at _ (sym c.in_ok-first.ensures.value));
    }

pub returns-then-len-eq255-clause-value : goal.returns-then-len-eq255-clause-value
returns-then-len-eq255-clause-value c =
    too_many c.args.bytes.now c.loop-numbers.numbers.items c.loop-numbers.end
    (numbers_at c.args.bytes.now c.args.at) c.loop-numbers.invariant.same
    (omega (arith, c.if-len-eq255.true))
    (rest_is c.args.bytes.now c.loop-numbers.end true
    (sym c.is_further.ensures ∙ c.loop-numbers-test.true))

pub returns-in_err-number-clause-value : goal.returns-in_err-number-clause-value
returns-in_err-number-clause-value c =
    let less : length c.loop-numbers.numbers.items < 255 =
    omega (arith, c.loop-numbers.invariant.short, c.if-len-eq255.false) in
    refuses c.from_residual-in_err-number.result _ (numbers_at c.args.bytes.now c.args.at)
    c.from_residual-in_err-number.ensures.0 c.from_residual-in_err-number.ensures.1
    (refused c.args.bytes.now c.loop-numbers.numbers.items c.loop-numbers.end
    (numbers_at c.args.bytes.now c.args.at) c.loop-numbers.invariant.same _ less
    (rest_is c.args.bytes.now c.loop-numbers.end true
    (sym c.is_further.ensures ∙ c.loop-numbers-test.true)) (sym c.in_err-number.ensures.value))

pub loop-numbers-preserved : goal.loop-numbers-preserved
loop-numbers-preserved c =
    let bytes = c.args.bytes.now in
    let less : length c.loop-numbers.numbers.items < 255 =
    omega (arith, c.loop-numbers.invariant.short, c.if-len-eq255.false) in
    let P : List Asn → Type 0 =
    λ ns. with_front before_with ns (further_at bytes (255 - length ns) c.in_ok-number.after)
    ≡ numbers_at bytes c.args.at in
    let items = c.in_ok-push.ensures.items in
    record {
      within = c.in_ok-number.ensures.within.1;
      some = omega (arith, ap length items);
      short = omega (arith, ap length items, less);
      same =
          subst P (sym items)
          (goes_on bytes c.loop-numbers.numbers.items c.loop-numbers.end
          (numbers_at bytes c.args.at) c.loop-numbers.invariant.same _ less
          (rest_is c.args.bytes.now c.loop-numbers.end true
          (sym c.is_further.ensures ∙ c.loop-numbers-test.true))
          (sym c.in_ok-number.ensures.value));
    }

pub returns-clause-value : goal.returns-clause-value
returns-clause-value c =
    let P : List Asn → Type 0 =
    λ ns. numbers_at c.args.bytes.now c.args.at ≡ Ok (ns, c.loop-numbers.end) in
    subst P (sym c.in-Some.ensures.0)
    (is_done c.args.bytes.now c.loop-numbers.numbers.items c.loop-numbers.end
    (numbers_at c.args.bytes.now c.args.at) c.loop-numbers.invariant.same
    (rest_is c.args.bytes.now c.loop-numbers.end false
    (sym c.is_further.ensures ∙ c.loop-numbers-test.false)))
