use Rattle.std.proofs.Common.{arith}
use Rattle.std.proofs.lemmas.Nat.{mul-le}
use Rattle.cn_net.proofs.limits.row_count.Goals as goal

pub overflow_mul-result : goal.overflow_mul-result
overflow_mul-result c =
    omega (
      arith,
      mul-le c.session_count.result c.in_ok-prefixes.prefixes 32768 16384
          c.session_count.ensures.few
          (omega (arith, c.in_ok-prefixes.ensures, c.valid.ensures.few_prefixes)),
    )
