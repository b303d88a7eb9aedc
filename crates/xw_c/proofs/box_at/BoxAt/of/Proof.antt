-- `of`: the call takes the box apart, and the struct owns what the call gave.
use Rattle.std.proofs.Common.{◌≡◌, ◌∙◌, List, [], ◌∷◌, ◌++◌, ap, refl, sym, subst}
use mir.Syntax.{a_type, dcons, dnil}
use mir.Raw.{raw as mir_raw}
use mir.Val.{Val, vptr, vstruct, of_list}
use mir.MapTy.{inst_fn}
use base.Logic.{SProp, ent, emp, never, id⊢, fst∗}
use base.Fml.{ftrue, fsep, flft}
use prog.Wp.{WpFn}
use types.Logic.{sem}
use types.Kit.{‵, raw, ◌⊛◌, some, later, ◌$◌, ◌∵◌, !, qed, by, move, keep, drop, split, split3, join, fsplit, fjoin, fpick, pick, suffices, use0, use1, await, rewrite, feq_l}
use types.Run.{stop, fld, of_opd, no_more, and_then, returns, enter}
use types.ByLocal.{alloc_all, pass_all, free_all, look_at, get, get_in, sets, lands_as}
use types.Part.{agg, sub, whole}
use contract.Monad.{fact, fact_i}
use contract.Running.{tables}
use denote.Exit.{no}
use denote.RattleType.{RattleType, owns}
use denote.Signature.{types_at, plain}
use denote.Builtin.{RawPtr}
use denote.RawPtr.{Ptr, block_ptr, null_ptr, ptr_val, in_a_block}
use denote.Steps.{nothing, only, heard}
use denote.Param.{param, layout, bounded}
use denote.Param.Laws.{param_laws}
use denote.Struct.Tuple.{Tuple}
use denote.Triple.Spec.{triple_of}
use denote.Triple.Call.{calls_at}
use denote.Triple.Walked.{Stays, stay_dropped, walk_of}
use Rattle.core.proofs.alloc.Calls.{Goes-blank, handle_tells}
use Rattle.core.proofs.atomic.Steps.{fm}
use Rattle.std_alloc.specs.Box.Ownership.{box_owns}
use Rattle.std_alloc.proofs.BoxSteps.Form as box
use Rattle.std_alloc.proofs.BoxSteps.Steps.{box_out, box_in}
use Rattle.std.proofs.raw_atomic.Walks.{proved_at, leaves}
use Rattle.xw_c.proofs.Boxes.{beside, parts_typed, parts_close}
use Rattle.std_alloc.specs.contracts.boxed.Box.into_raw_with_allocator as apart
use Rattle.std_alloc.proofs.boxed.Box.into_raw_with_allocator.Met.{met}
use Rattle.xw_c.specs.contracts.box_at.BoxAt.of.{ended, clauses}
use Rattle.xw_c.specs.contracts.box_at.BoxAt.of.Key.{name}
use Rattle.xw_c.proofs.box_at.BoxAt.of.Statement.{statement}
use Rattle.xw_c.proofs.box_at.BoxAt.of.Code as code

pub of_spec : {M : Type 1} → statement M
of_spec 𝓤 𝓛 𝓜 𝓡 wired T A L LA g d dx dd allocator glue glued =
    -- the types of what the box holds and of its allocator, and this function at them
    let R : RattleType = param 0 T in
    let Z : RattleType = param 1 A in
    let LZ = param_laws 1 A LA in
    let bounds_at = bounded (a_type ∷ a_type ∷ []) (T, (A, tt)) (dcons d (dcons dx (dcons dd dnil))) in
    let fn = inst_fn bounds_at code.function in
    let form : box.Bx = record { row = T; laws = L; al = record { row = A; laws = LA; g = g; d = d; drops = dd } } in
    let signed = ended T A g d dx dd in
    let c = clauses T A g d dx dd 𝓛 𝓜.mem 𝓡.returns in
    let 𝓣 = tables 𝓤 𝓛.H 𝓜 𝓡 𝓡.env in
    let stays : Stays signed.signature.params signed.kept = (stay_dropped (plain (λ _. box.B form)) no, tt) in
    let goes = Goes-blank 𝓛 2 (plain (λ _. box.B form)) no (λ κs x f. tt) in
    proved_at 𝓛 signed stays c 𝓜 𝓡 (goes, tt) (name bounds_at) fn (code.unfolded 𝓤 𝓛.H 𝓜 𝓡 wired (T, (A, tt)) d dx dd) (λ z are.
    let κs = z.0.0 in let qs = z.0.1 in let boxed = z.0.3.0 in let alloc = boxed.alloc in let x = boxed.value in
    let Post : Val → SProp 𝓤 = (walk_of 𝓛 signed stays c).post z in
    let Run : List Val → SProp 𝓤 = λ ws. WpFn 𝓤 𝓛.H 𝓣.C 𝓣.Λ fn ws Post in
    let tokens = ‵ (flft κs.0 qs.0) ⊛ ‵ (flft κs.1.0 qs.1.0) ⊛ ‵ ftrue in
    let asked = raw ((c κs z.0.3).requires z.1) in
    let not_null = fst∗ 𝓤 (never 𝓤) (sem 𝓛 (g.dealloc_token alloc (mir_raw (layout T)) null_ptr)) in
    qed 𝓛 ((tokens ⊛ ‵ (owns (types_at signed.signature.params κs) z.0.3 z.0.4)) ∷ asked ∷ []) ∵
    -- the machine value of the box
    split ! $ move ! (1 ∷ []) $ fsplit ! $ box_out form ! boxed z.0.4.0 (λ b o h e ws fits. box_in form ! boxed b o x e refl $
    let w : Val = box.word form h b o in
    let typed = parts_typed R Z LZ g b o h fits in
    let call = triple_of 𝓛 (apart.signature T A g d dd dx) (apart.spec T A g d dd dx 𝓛 𝓜.mem 𝓡.returns) in
    let y : call.Ghost = ((κs, qs, tt, (boxed, tt), (w ∷ [], tt)), tt) in
    -- what the call asks for
    fjoin ! $ move ! (1 ∷ 0 ∷ []) $ join ! $ join ! $ use1 𝓛 (raw (call.pre y)) (id⊢ 𝓤 _) $
    suffices ! (Run (w ∷ [])) (subst (λ (us : List Val). ent 𝓤 (Run (w ∷ [])) (Run us)) (sym (λ i. ws i ++ [])) (id⊢ 𝓤 (Run (w ∷ [])))) $
    enter ! 𝓣.C 𝓣.Λ fn (w ∷ []) Post $ alloc_all ! (λ l. pass_all ! refl (typed, tt) $ sets ! (of_opd ! (get ! refl)) refl typed $
    calls_at ! (fm 𝓛 𝓜 𝓡) call (met 𝓤 𝓛 𝓜 𝓡 (code.calls-std_alloc::boxed::Box::into_raw_with_allocator 𝓡.env wired) T A L LA g d dd dx allocator glued glue) y (and_then ! (get ! refl) (no_more !)) (λ u.
    -- what it gives: the tokens, a pair, the allocator's value, and what the address owns
    let Pair = Tuple (RawPtr ∷ Z ∷ []) in
    let Given : Ptr × A.Denot → _ = λ r. (tokens ⊛ ‵ (Pair.own_val r (u ∷ []))) ⊛ some (λ (_ : (Unit {0} × (Unit {0} × Unit {0})) × Unit {0}). ‵ (fsep (fsep ftrue (fsep ftrue ftrue)) ftrue) ⊛ (raw (fact 𝓤 (r.1 ≡ alloc)) ⊛ ‵ (box_owns (g.dealloc_token alloc) R r.0 x))) in
    use1 𝓛 (later (some Given)) (id⊢ 𝓤 _) $
    await ! tt $ pick ! (λ r. split ! $ move ! (1 ∷ []) $ pick ! (λ _. split3 ! $ drop ! $ heard ! (r.1 ≡ alloc) (λ is_alloc.
    in_a_block ! r.0 (λ p. box_owns (g.dealloc_token alloc) R p x) not_null (λ b' o' is_block.
    -- the machine value of the pair
    move ! (1 ∷ []) $ split ! $ move ! (1 ∷ []) $ fpick ! (λ each. fsplit ! $ feq_l ! (λ is_pair. fsplit ! $ feq_l ! (λ is_address. fsplit ! $
    rewrite ! 0 (λ (s : A.Denot). ‵ (A.own_val s each.1.0)) is_alloc refl $ handle_tells form.al ! alloc each.1.0 (λ h' is_handle fits'.
    let made = parts_typed R Z LZ g b' o' h' fits' in
    let address : each.0 ≡ vptr b' o' ∷ [] = is_address ∙ ap (λ (p : Ptr). ptr_val p ∷ []) is_block in
    lands_as ! (ap only (is_pair ∙ (λ j. vstruct (of_list (address j ++ (is_handle j ++ []))) ∷ []))) refl made $
    sets ! (of_opd ! (get_in ! (fld ! refl (stop !)) (sub ! 0 refl (whole !)))) refl (tt, tt) $ sets ! (of_opd ! (get_in ! (fld ! refl (stop !)) (sub ! 1 refl (whole !)))) refl fits' $
    sets ! (of_opd ! (get ! refl)) refl fits' $ sets ! (agg ! (and_then ! (get ! refl) (and_then ! (get ! refl) (no_more !)))) refl made $
    -- the struct
    move ! (3 ∷ 0 ∷ []) $ parts_close R Z LZ g ! b' o' h' alloc x $
    use0 𝓛 (raw (fact 𝓤 (x ≡ x))) (fact_i 𝓤 (x ≡ x) (emp 𝓤) refl) $ nothing ! $ nothing ! $ fjoin ! $
    returns ! (look_at ! 0 refl) $ free_all ! refl $ keep ! (4 ∷ 0 ∷ 2 ∷ 1 ∷ []) $
    by ! (leaves 𝓛 signed stays c z (beside (vptr b' o') h') (record { address = block_ptr b' o'; alloc = alloc; held = x }) ((tt, (tt, tt)), tt) (tt, tt))))))))))))))
