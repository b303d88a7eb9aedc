-- `blank` owns nothing.
use Rattle.std.proofs.Common.{◌≡◌, List, [], ◌∷◌, refl, Option, None}
use mir.Syntax.{ty_ptr}
use mir.Val.{Val, vstruct, vcons, vnil, has_ty}
use base.Logic.{SProp, emp}
use base.Fml.{ftrue}
use types.Kit.{‵, raw, ◌⊛◌, ◌$◌, ◌∵◌, !, qed, by, keep, split, fjoin, fpack, feq_i, use0}
use types.Run.{no_more, and_then, returns, enter}
use types.ByLocal.{alloc_all, pass_all, free_all, look_at, get, sets}
use types.Part.{agg}
use contract.Monad.{fact, fact_i}
use contract.Running.{tables}
use denote.Exit.{yes}
use denote.RattleType.{Valss, owns}
use denote.Signature.{types_at, plain}
use denote.Builtin.{RawPtr}
use denote.RawPtr.{ptr_val, rawptr_vals, rawptr_Tells, rawptr_Lawful}
use denote.Steps.{nothing}
use denote.Struct.Struct.{within}
use denote.Struct.Owning.{shape}
use denote.Triple.Walked.{Stays, stay_dropped, walk_of, Goes-dropped}
use Rattle.std.proofs.raw_atomic.Walks.{proved, leaves}
use Rattle.std_alloc.proofs.ResultValues.{and_tt}
use Rattle.xw_c.specs.Held.{held}
use Rattle.xw_c.specs.contracts.open_session.OpenSession as open_session
use Rattle.xw_c.specs.contracts.held.Held as held_row
use Rattle.xw_c.specs.contracts.held.Held.blank.{ended, clauses}
use Rattle.xw_c.specs.contracts.held.Held.blank.Key.{name}
use Rattle.xw_c.proofs.held.Held.blank.Statement.{statement}
use Rattle.xw_c.proofs.held.Held.blank.Code as code

pub blank_spec : {M : Type 1} → statement M
unfolding held
blank_spec 𝓤 𝓛 𝓜 𝓡 wired =
    let H = 𝓛.H in let 𝓣 = tables 𝓤 H 𝓜 𝓡 𝓡.env in let c = clauses 𝓛 𝓜.mem 𝓡.returns in let fn = code.function in
    let hs : Stays ended.signature.params ended.kept = (stay_dropped (plain (λ _. RawPtr)) yes, tt) in
    proved 𝓛 ended hs c 𝓜 𝓡 (Goes-dropped 𝓛 0 (plain (λ _. RawPtr)) yes (λ κs x f. refl), tt) name fn (code.unfolded 𝓤 H 𝓜 𝓡 wired)
    (λ κs. (rawptr_vals, tt)) (λ κs. (rawptr_Tells, tt)) (λ κs qs bounds a n are.
    let p = a.0 in let z : (walk_of 𝓛 ended hs c).Ghost = ((κs, qs, bounds, a, (rawptr_vals p, tt)), n) in let Post : Val → SProp 𝓤 = (walk_of 𝓛 ended hs c).post z in
    let asked = raw ((c κs a).requires n) in let kept : Option open_session.the_row.Denot = None in let out : Val = vstruct (vcons (ptr_val p) vnil) in let ok = (rawptr_Lawful 𝓛).typed p (rawptr_vals p) refl in
    qed 𝓛 ((‵ ftrue ⊛ ‵ (owns (types_at ended.signature.params κs) a (rawptr_vals p, tt))) ∷ asked ∷ []) ∵ split ! $
    enter ! 𝓣.C 𝓣.Λ fn (rawptr_vals p) Post $ alloc_all ! (λ l. pass_all ! refl ok $
    sets ! (agg ! (and_then ! (get ! refl) (no_more !))) refl (and_tt (has_ty ty_ptr (ptr_val p)) ok.0.0, (ok.0.1, tt)) $
    nothing ! $ nothing ! $ feq_i ! (List Val) (ptr_val p ∷ []) (ptr_val p ∷ []) refl $ fjoin ! $ feq_i ! (List Val) (out ∷ []) (out ∷ []) refl $ fjoin ! $
    fpack ! (Valss (RawPtr ∷ [])) (within (shape held_row.the_type) (p, tt) (out ∷ [])) (ptr_val p ∷ [], tt) $ fjoin ! $
    use0 𝓛 (raw (fact 𝓤 (kept ≡ kept))) (fact_i 𝓤 (kept ≡ kept) (emp 𝓤) refl) $ nothing ! $ nothing ! $ fjoin ! $
    returns ! (look_at ! 0 refl) $ free_all ! refl $ keep ! (3 ∷ 0 ∷ 2 ∷ 1 ∷ []) $ by ! (leaves 𝓛 ended hs c z out (record { at = p; session = kept }) (tt, tt) (tt, tt))))
