-- `shown` rebuilds the box from its address.
use Rattle.std.proofs.Common.{◌≡◌, List, [], ◌∷◌, ◌++◌, refl, sym, ap, ◌∙◌, subst, Option, None, Some, IsSome, true≢false}
use mir.Syntax.{impl, tnil, dnil}
use mir.Raw.{raw as mir_raw}
use mir.Val.{Val, vptr, vstruct, vcons, vnil, of_list}
use base.Logic.{SProp, ent, emp, never, id⊢, fst∗}
use base.Fml.{ftrue}
use prog.Wp.{WpFn}
use types.Logic.{sem}
use types.Kit.{‵, raw, ◌⊛◌, rewrite, ◌$◌, ◌∵◌, !, qed, by, move, keep, drop, split, fsplit, fjoin, fpick, feq_l, suffices, use0}
use types.Run.{stop, fld, of_opd, no_more, and_then, returns, enter}
use types.ByLocal.{alloc_all, pass_all, free_all, look_at, get, get_in, sets}
use types.Part.{agg, sub, whole}
use contract.Monad.{fact, fact_i}
use contract.Running.{tables}
use denote.Exit.{yes}
use denote.Memory.{lone}
use denote.RattleType.{RattleType, owns}
use denote.Signature.{types_at, plain}
use denote.RawPtr.{Ptr, block_ptr, null_ptr, ptr_val, in_a_block}
use denote.Steps.{nothing, heard}
use denote.Triple.Walked.{Stays, stay_dropped, walk_of, Goes-dropped}
use Rattle.core.proofs.alloc.Calls.{Al, handle_tells}
use Rattle.std_alloc.specs.Box.Ownership.{box_owns}
use Rattle.std.proofs.raw_atomic.Walks.{proved_at, leaves}
use Rattle.xw_c.proofs.Boxes.{beside, parts_typed, parts_close}
use Rattle.xw_c.specs.Held.{held}
use Rattle.xw_c.specs.contracts.open_session.OpenSession as open_session
use Rattle.std.specs.contracts.alloc.Global as heap
use Rattle.std.specs.contracts.impls.GlobalAllocator.TheImpl as implemented
use Rattle.std.proofs.alloc.Global.TheLaws as heap_laws
use Rattle.xw_c.specs.contracts.held.Held as held_row
use Rattle.xw_c.specs.contracts.held.Held.shown.{ended, clauses}
use Rattle.xw_c.specs.contracts.held.Held.shown.Key.{name}
use Rattle.xw_c.proofs.held.Held.shown.Statement.{statement}
use Rattle.xw_c.proofs.held.Held.shown.Code as code

some_of : {X : Type 0} (m : Option X) → IsSome m → (x : X) × (m ≡ Some x)
some_of None e = absurd (true≢false (sym e))
some_of (Some x) e = (x, refl)

pub shown_spec : {M : Type 1} → statement M
unfolding held
shown_spec 𝓤 𝓛 𝓜 𝓡 wired =
    let H = 𝓛.H in let 𝓣 = tables 𝓤 H 𝓜 𝓡 𝓡.env in let c = clauses 𝓛 𝓜.mem 𝓡.returns in let fn = code.function in
    let R : RattleType = open_session.the_row in let Z : RattleType = heap.the_row in let L = heap_laws.the_row_laws in let g = implemented.ghosts in let Row : RattleType = held_row.the_row in
    let al : Al = record { row = Z; laws = L; g = g; d = impl [] tnil dnil; drops = impl [] tnil dnil } in
    let hs : Stays ended.signature.params ended.kept = (stay_dropped (plain (λ _. Row)) yes, (stay_dropped (plain (λ _. Z)) yes, tt)) in
    proved_at 𝓛 ended hs c 𝓜 𝓡 (Goes-dropped 𝓛 0 (plain (λ _. Row)) yes (λ κs x f. refl), (Goes-dropped 𝓛 0 (plain (λ _. Z)) yes (λ κs x f. refl), tt)) name fn (code.unfolded 𝓤 H 𝓜 𝓡 wired) (λ z are.
    let κs = z.0.0 in let v = z.0.3.0 in let a = z.0.3.1.0 in let Post : Val → SProp 𝓤 = (walk_of 𝓛 ended hs c).post z in let Run : List Val → SProp 𝓤 = λ ws. WpFn 𝓤 H 𝓣.C 𝓣.Λ fn ws Post in
    qed 𝓛 ((‵ ftrue ⊛ ‵ (owns (types_at ended.signature.params κs) z.0.3 z.0.4)) ∷ raw (fact 𝓤 (IsSome v.session)) ∷ []) ∵ move ! (1 ∷ []) $ heard ! (IsSome v.session) (λ some. let x = (some_of v.session some).0 in let is : v.session ≡ Some x = (some_of v.session some).1 in
    split ! $ move ! (1 ∷ []) $ fsplit ! $ fsplit ! $
    fpick ! (λ vss. fsplit ! $ feq_l ! (λ ev. fsplit ! $ feq_l ! (λ ep. drop ! $ rewrite ! 0 (λ (m : Option open_session.the_row.Denot). ‵ (held R v.at m)) is refl $
    in_a_block ! v.at (λ p. box_owns (g.dealloc_token a) R p x) (fst∗ 𝓤 (never 𝓤) (sem 𝓛 (g.dealloc_token a (mir_raw (lone R.mir)) null_ptr))) (λ b o e.
    move ! (1 ∷ []) $ fsplit ! $ handle_tells al ! a z.0.4.1.0 (λ h eh fits.
    let out : Val = vstruct (vcons (vptr b o) vnil) in let us : List Val = out ∷ h ∷ [] in let w : Val = beside (vptr b o) h in let typed = parts_typed R Z L g b o h fits in
    let ew : z.0.4.0 ≡ out ∷ [] = ev ∙ ap (λ (ps : List Val). vstruct (of_list (ps ++ [])) ∷ []) (ep ∙ ap (λ (p : Ptr). ptr_val p ∷ []) e) in
    -- [the allocator; nothing; the memory; the tokens]
    suffices ! (Run us) (subst (λ (ws : List Val). ent 𝓤 (Run us) (Run ws)) (sym (λ i. ew i ++ (eh i ++ []))) (id⊢ 𝓤 (Run us))) $
    enter ! 𝓣.C 𝓣.Λ fn us Post $ alloc_all ! (λ l. pass_all ! refl ((tt, (tt, tt)), (fits, tt)) $
    sets ! (of_opd ! (get_in ! (fld ! refl (stop !)) (sub ! 0 refl (whole !)))) refl (tt, tt) $ sets ! (of_opd ! (get ! refl)) refl (tt, tt) $
    sets ! (agg ! (and_then ! (get ! refl) (and_then ! (get ! refl) (no_more !)))) refl typed $
    move ! (2 ∷ 0 ∷ []) $ parts_close R Z L g ! b o h a x $
    use0 𝓛 (raw (fact 𝓤 (v.session ≡ Some x))) (fact_i 𝓤 (v.session ≡ Some x) (emp 𝓤) is) $ nothing ! $ nothing ! $ fjoin ! $ nothing ! $ fjoin ! $
    -- [the parameters; the ensures; the taken box; nothing; the tokens; the locals]
    returns ! (look_at ! 0 refl) $ free_all ! refl $ keep ! (4 ∷ 0 ∷ 2 ∷ 1 ∷ []) $ by ! (leaves 𝓛 ended hs c z w (record { address = block_ptr b o; alloc = a; held = x }) (tt, (tt, tt)) (tt, (tt, tt)))))))))))
