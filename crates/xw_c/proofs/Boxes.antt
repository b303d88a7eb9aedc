-- The machine value of a `BoxAt`: an address beside an allocator.
use Rattle.std.proofs.Common.{◌≡◌, ◌∙◌, ℕ, List, [], ◌∷◌, ◌++◌, ap, refl}
use mathlib.Core.Bool.{true, ◌&&◌}
use lib.Dec.{T}
use seplogic.Ra.Ura.{Ura}
use mir.Syntax.{impl, tnil, dnil}
use mir.Raw.{raw}
use mir.Val.{Val, vptr, vstruct, vcons, vnil, of_list, has_ty, WT}
use base.Logic.{never, fst∗}
use types.Logic.{Logic, sem}
use types.Kit.{Item, Goal, Seq, Step, step, ‵, ◌$◌, move, drop, fsplit, fjoin, fpick, fpack, feq_i, feq_l}
use denote.RattleType.{RattleType, Valss}
use denote.Builtin.{RawPtr}
use denote.Memory.{lone}
use denote.RawPtr.{Ptr, block_ptr, null_ptr, ptr_val, in_a_block}
use denote.Steps.{nothing}
use denote.Param.{layout}
use denote.Param.Laws.{Laws}
use denote.Struct.Struct.{within}
use denote.Struct.Owning.{shape}
use Rattle.core.specs.declared.alloc.Allocator.{Ghosts}
use Rattle.core.proofs.alloc.Calls.{Al, handle_tells}
use Rattle.core.proofs.cell.Inside.{Good}
use Rattle.std_alloc.specs.Box.Ownership.{box_owns}
use Rattle.std_alloc.proofs.ResultValues.{and_tt}
use Rattle.xw_c.specs.contracts.box_at.BoxAt as box_at

-- a struct of these two fields
abbrev pub beside : Val → Val → Val
beside first second = vstruct (vcons first (vcons second vnil))

module _ (R Z : RattleType) (L : Laws Z) (g : Ghosts Z.Denot) where
  abbrev pub Parts : RattleType
  Parts = box_at.the_row R Z g

  abbrev allocator : Al
  allocator = record { row = Z; laws = L; g = g; d = impl [] tnil dnil; drops = impl [] tnil dnil }

  abbrev fields : List RattleType
  fields = RawPtr ∷ Z ∷ []

  -- an address beside an allocator's value has the type of the struct
  pub parts_typed : (block offset : ℕ) (handle : Val) → Good (layout Z) handle → T (has_ty (layout Z) handle && true) × WT (beside (vptr block offset) handle)
  parts_typed block offset handle good = (and_tt (has_ty (layout Z) handle) good.0, (tt, (good.1, tt)))

  module _ {M : Type 1} {𝓤 : Ura M} {𝓛 : Logic 𝓤} {K : Type 0} {Γ : List (Item 𝓤)} {G : Goal 𝓤 𝓛.H} where
    -- Opens the struct: the address lies in a block, the machine value is known, and what is owned is the box and the allocator.
    pub parts_open : K → (d : Parts.Denot) (vs : List Val)
        → ((block offset : ℕ) (handle : Val) → vs ≡ beside (vptr block offset) handle ∷ [] → Good (layout Z) handle
        → Seq K 𝓛 (‵ (box_owns (g.dealloc_token d.alloc) R (block_ptr block offset) d.held) ∷ ‵ (Z.own_val d.alloc (handle ∷ [])) ∷ Γ) G)
        → Seq K 𝓛 (‵ (Parts.own_val d vs) ∷ Γ) G
    parts_open t d vs next =
        let whole : List Val → List Val → List Val = λ first second. vstruct (of_list (first ++ (second ++ []))) ∷ [] in
        let not_null = fst∗ 𝓤 (never 𝓤) (sem 𝓛 (g.dealloc_token d.alloc (raw (lone R.mir)) null_ptr)) in
        fsplit t $ fpick t (λ each. fsplit t $ feq_l t (λ is_struct. fsplit t $ feq_l t (λ is_address. fsplit t $
        handle_tells allocator t d.alloc each.1.0 (λ handle is_handle good. move t (1 ∷ []) $ drop t $ move t (1 ∷ []) $
        in_a_block t d.address (λ p. box_owns (g.dealloc_token d.alloc) R p d.held) not_null (λ block offset is_block.
        let known : vs ≡ beside (vptr block offset) handle ∷ [] = is_struct ∙ (λ i. whole ((is_address ∙ ap (λ (p : Ptr). ptr_val p ∷ []) is_block) i) (is_handle i)) in
        next block offset handle known good)))))

    -- Closes the struct again.
    pub parts_close : K → (block offset : ℕ) (handle : Val) (a : Z.Denot) (x : R.Denot)
        → Step K 𝓛 (‵ (Parts.own_val (record { address = block_ptr block offset; alloc = a; held = x }) (beside (vptr block offset) handle ∷ [])) ∷ Γ) G
        (‵ (box_owns (g.dealloc_token a) R (block_ptr block offset) x) ∷ ‵ (Z.own_val a (handle ∷ [])) ∷ Γ) G
    parts_close t block offset handle a x = step (λ after.
        let value : Val = beside (vptr block offset) handle in
        nothing t $ move t (2 ∷ 0 ∷ []) $ fjoin t $ feq_i t (List Val) (vptr block offset ∷ []) (vptr block offset ∷ []) refl $ fjoin t $
        feq_i t (List Val) (value ∷ []) (value ∷ []) refl $ fjoin t $
        fpack t (Valss fields) (within (shape (box_at.the_type R Z g)) (block_ptr block offset, (a, tt)) (value ∷ [])) (vptr block offset ∷ [], (handle ∷ [], tt)) $ fjoin t $ after)
