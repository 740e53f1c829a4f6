-- The laws of the greatest number, and of a flag (join semilattices: Shapiro et al. 2011).
use Rattle.std.specs.Prelude.{max, false, ◌||◌}
use Rattle.std.proofs.Common.{arith}
use Rattle.std.proofs.Math.Bool.{or_assoc, or_comm, or_self, or-false}
use Rattle.squall_join.specs.Laws.{JoinLaws}
use Rattle.squall_join.specs.Basic.{is_max}

pub max_laws : JoinLaws is_max 0 max
max_laws = record {
  bottom_is = omega arith;
  closed = λ x y a b. omega arith;
  assoc = λ x y z a b c. omega arith;
  comm = λ x y a b. omega arith;
  idem = λ x a. omega arith;
  neutral = λ x a. omega arith;
}

pub flag_laws : JoinLaws (λ _. Unit {0}) false ◌||◌
flag_laws = record {
  bottom_is = tt;
  closed = λ x y a b. tt;
  assoc = λ x y z a b c. or_assoc x y z;
  comm = λ x y a b. or_comm x y;
  idem = λ x a. or_self x;
  neutral = λ x a. or-false x;
}
