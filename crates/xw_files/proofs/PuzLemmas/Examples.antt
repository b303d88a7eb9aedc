-- Examples that the definitions compute: a header with two faults.
use Rattle.std.proofs.Common.{◌≡◌, ℕ, List, [], ◌∷◌, ◌++◌, replicate, refl, inl, arith, Err}
use Rattle.std.specs.Prelude.{codes}
use Rattle.xw_files.specs.declared.fault.ReadFault.TheVariants.{Version, Scrambled}
use Rattle.xw_files.specs.Puz.Reading.{magic, header_at}
use Rattle.xw_files.specs.Puz.Faults.{HasFault, IsFirstFault}
use Rattle.xw_files.proofs.PuzLemmas.HeaderFaults.{header_first}

-- of two by two cells, with the version 1.4 and the scrambled tag 4
abbrev two_faults : List ℕ
two_faults = replicate 2 0 ++ magic ++ replicate 10 0 ++ codes "1.4" ++ replicate 17 0 ++ 2 ∷ 2 ∷ 4 ∷ 0 ∷ 1 ∷ 0 ∷ 4 ∷ 0 ∷ []

scrambled_holds : HasFault two_faults Scrambled
scrambled_holds e = absurd (omega (arith, e))

version_read : header_at two_faults ≡ Err Version
unfolding header_at
version_read = refl

version_is_first : IsFirstFault two_faults Version
version_is_first = header_first two_faults Version version_read

scrambled_is_not : IsFirstFault two_faults Scrambled → ⊥
scrambled_is_not first = first.1 Version (inl (omega arith)) version_is_first.0
