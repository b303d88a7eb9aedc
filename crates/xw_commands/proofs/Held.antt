-- Buffered lines.
use Rattle.std.proofs.Common.{◌≡◌, ℕ, true, leb, List, length, refl, inl, inr, arith}
use Rattle.std.proofs.lemmas.Bool.{cases_Bool, cases_lt}
use Rattle.std.proofs.lemmas.Bool.Decides.{nat_tests}
use Rattle.std.specs.Prelude.{Some, None, Err, nat_lt}
use Rattle.xw_lines.specs.Cut.{held}
use Rattle.xw_commands.specs.declared.command.SyntaxFault.TheVariants as syntax
use Rattle.xw_commands.specs.Command.{command_of}

pub held_is : (whole line : List ℕ) → held whole ≡ Some line → whole ≡ line
held_is whole line h =
    elim (cases_Bool (leb (length whole) 4096)) [
      | inl small ↦ let same : Some whole ≡ Some line = rw small at h in cc
      | inr large ↦ let none : None ≡ Some line = rw large at h in cc
    ]

pub too_long : (whole : List ℕ) → held whole ≡ None → command_of whole ≡ Err syntax.LineTooLong
too_long whole h =
    elim (cases_lt 4096 (length whole)) [
      | inl large ↦ let test : nat_lt 4096 (length whole) ≡ true = grind (arith, nat_tests, large) in rw test refl
      | inr small ↦
          let test : leb (length whole) 4096 ≡ true = grind (arith, nat_tests, small) in
          let some : Some whole ≡ None = rw test at h in cc
    ]
