-- The parsed subcommand.
use Rattle.std.proofs.Common.{◌≡◌, ◌∙◌, ◌⊎◌, inl, inr, [], sym, ap, refl, arith, codes, subst, slice_index_or, List, Option, Some, None}
use Rattle.std.specs.Prelude.{Bool, is_some, map, option_map, IfSome}
use Rattle.std.specs.Borrow.{Bor}
use Rattle.std.specs.Option.{option_map_or}
use Rattle.clap.specs.Words.{Row, Text, all_of, first_of, subcommand_name_of, subcommand_rows_of}
use Rattle.clap.specs.Simple.{subcommand_rows}
use Rattle.clap.specs.declared.parser.matches.ArgMatches.{ArgMatches}
use Rattle.clap.specs.declared.parser.matches.ArgMatches.TheViews.{out-ArgMatches, out-SubCommand}
use Rattle.std.specs.Box.{box_value}
use Rattle.xw_arguments.specs.Calls.{AreFiles, clash_in, IsCall, IsCallOf}
use Rattle.xw_arguments.specs.Usage.{IsNoCall}
use Rattle.xw_arguments.specs.declared.arguments.Clash.{Clash}
use Rattle.xw_arguments.specs.declared.arguments.SessionFiles.{SessionFiles}
use Rattle.xw_arguments.specs.declared.arguments.Call.{Call}
use Rattle.xw_arguments.specs.declared.arguments.Call.TheVariants.{Edit, Convert, Check}

-- a pair from its parts
from_parts : (found : Option (Text × List Row)) (name : Text) (rows : List Row) → option_map (λ p. p.0) found ≡ Some name → Some rows ≡ option_map (λ p. p.1) found → found ≡ Some (name, rows)
from_parts None name rows n r = cc
from_parts (Some p) name rows n r =
    let first : p.0 ≡ name = cc in
    let second : p.1 ≡ rows = cc in
    ap (λ (x : Text). Some (x, p.1)) first ∙ ap (λ (x : List Row). Some (name, x)) second

-- the name of the subcommand is that of its rows
names_of_rows : (m : ArgMatches) → option_map (λ p. p.0) (subcommand_rows_of m) ≡ subcommand_name_of m
names_of_rows m = elim (out-ArgMatches m).subcommand as (λ o. option_map (λ p. p.0) (subcommand_rows o) ≡ option_map (λ b. (out-SubCommand (box_value b)).name.now) o) [ None ↦ refl | Some b ↦ refl ]

pub found_by : (m : ArgMatches) (name : Text) (rows : List Row) → Some name ≡ subcommand_name_of m → Some rows ≡ option_map (λ p. p.1) (subcommand_rows_of m) → (text : Text) → name ≡ text → subcommand_rows_of m ≡ Some (text, rows)
found_by m name rows n r text t = from_parts (subcommand_rows_of m) text rows (names_of_rows m ∙ sym n ∙ ap (λ (x : Text). Some x) t) r

-- ---- parsed arguments that are no call

-- the name and the rows of a subcommand, if there is one
abbrev name_in : Option (Text × List Row) → Text
name_in found = option_map_or (λ p. p.0) found []

abbrev rows_in : Option (Text × List Row) → List Row
rows_in found = option_map_or (λ p. p.1) found []

-- a subcommand is no call if it is none with these values
pub no_call : (found : Option (Text × List Row)) (name : Text) (rows : List Row) → found ≡ Some (name, rows) → ((call : Call) → IsCallOf name call rows → ⊥) → IsNoCall found
no_call found name rows named none call (other, others, is, of) =
    let names : other ≡ name = ap name_in (sym is ∙ named) in
    let same : others ≡ rows = ap rows_in (sym is ∙ named) in
    none call (subst (λ (n : Text). IsCallOf n call rows) names (subst (λ (r : List Row). IsCallOf other call r) same of))

pub called : (result : Option Call) (found : Option (Text × List Row)) (name : Text) (rows : List Row) → found ≡ Some (name, rows) → IfSome result (λ call. IsCallOf name call rows)
    → IfSome result (λ call. IsCall call found)
called None found name rows named of = tt
called (Some call) found name rows named of = (name, rows, named, of)

-- `convert` without one of its files is no call
pub no_convert : (rows : List Row) → (first_of (codes "from") rows ≡ None) ⊎ (first_of (codes "to") rows ≡ None) → (call : Call) → IsCallOf (codes "convert") call rows → ⊥
no_convert rows lacks (Edit files explain) of = let bad : 101 ≡ 99 = ap (λ (t : Text). slice_index_or t 0 0) of.0 in absurd (omega (arith, bad))
no_convert rows (inl none) (Convert from_file to_file explain) of =
    let values = of.1 in
    let bad : Some from_file.now ≡ None = values.0 ∙ none in cc
no_convert rows (inr none) (Convert from_file to_file explain) of =
    let values = of.1 in
    let bad : Some to_file.now ≡ None = values.1 ∙ none in cc
no_convert rows lacks (Check files explain) of = let bad : 104 ≡ 111 = ap (λ (t : Text). slice_index_or t 1 0) of.0 in absurd (omega (arith, bad))

-- `check` without a file is no call
pub no_check : (rows : List Row) → all_of (codes "file") rows ≡ None → (call : Call) → IsCallOf (codes "check") call rows → ⊥
no_check rows none (Edit files explain) of = let bad : 101 ≡ 99 = ap (λ (t : Text). slice_index_or t 0 0) of.0 in absurd (omega (arith, bad))
no_check rows none (Convert from_file to_file explain) of = let bad : 111 ≡ 104 = ap (λ (t : Text). slice_index_or t 1 0) of.0 in absurd (omega (arith, bad))
no_check rows none (Check files explain) of =
    let values = of.1 in
    let bad : Some (map (λ file. file.now) files.items) ≡ None = values.0 ∙ none in cc

-- `edit` without valid files is no call
pub no_edit : (rows : List Row) → ((files : SessionFiles) → AreFiles files rows → ⊥) → (call : Call) → IsCallOf (codes "edit") call rows → ⊥
no_edit rows none (Edit files explain) of =
    let values = of.1 in
    none files values.0
no_edit rows none (Convert from_file to_file explain) of = let bad : 99 ≡ 101 = ap (λ (t : Text). slice_index_or t 0 0) of.0 in absurd (omega (arith, bad))
no_edit rows none (Check files explain) of = let bad : 99 ≡ 101 = ap (λ (t : Text). slice_index_or t 0 0) of.0 in absurd (omega (arith, bad))

-- ---- options that do not go together

-- an option is given if it has a value
pub given : (found : Option (Bor Text)) (value : Option Text) (is : Bool) → option_map (λ n. n.now) found ≡ value → is ≡ is_some found → is ≡ is_some value
given None value is same is_so = is_so ∙ ap (λ (o : Option Text). is_some o) same
given (Some text) value is same is_so = is_so ∙ ap (λ (o : Option Text). is_some o) same

-- if two options clash, no files of a session exist
pub clashed : (rows : List Row) (clash : Clash) → clash_in rows ≡ Some clash → (files : SessionFiles) → AreFiles files rows → ⊥
clashed rows clash is files are = let bad : Some clash ≡ None = sym is ∙ are.fits in cc
