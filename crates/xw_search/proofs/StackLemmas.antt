-- The states along the placements of a stack.
use Rattle.std.proofs.Common.{◌≡◌, ℕ, suc, ◌-◌, ◌<◌, Bool, true, false, List, [], ◌∷◌, ◌++◌, length, refl, sym, ◌∙◌, ap, subst, arith}
use Rattle.std.specs.Option.{option_to_list}
use Rattle.std.specs.Prelude.{Option, Some, None, IfNone}
use Rattle.std.proofs.lemmas.List.{append_assoc, append-nil, length-append, nil_from_length, same_from_push}
use Rattle.xw_feas.specs.State.{State}
use Rattle.xw_search.specs.Position.{DiffersInEntries}
use Rattle.xw_search.specs.Stack.{first_or, AreForced, LeadThrough, IsTakenBack}
use Rattle.xw_search.proofs.StateLemmas.{DiffersInEntries-itself, DiffersInEntries-back}

pub first_or-more : (states : List State) (last now : State) → first_or (states ++ last ∷ []) now ≡ first_or states last
first_or-more [] last now = refl
first_or-more (state ∷ states) last now = refl

-- an empty stack stands where the engine has no levels
pub stands_empty : {M : Type 0} (is_placed : M → State → State → Type 0) (items : List M) (levels : List State) (now : State) → items ≡ [] → levels ≡ [] → LeadThrough is_placed items levels now
stands_empty is_placed items levels now none empty = subst (λ list. LeadThrough is_placed list levels now) (sym none) (subst (λ states. LeadThrough is_placed [] states now) (sym empty) tt)

-- one more placement
pub lead_more : {M : Type 0} (is_placed : M → State → State → Type 0) (placements : List M) (placement : M) (states : List State) (before now : State) → LeadThrough is_placed placements states before → is_placed placement before now → LeadThrough is_placed (placements ++ placement ∷ []) (states ++ before ∷ []) now
lead_more is_placed [] placement [] before now lead is = (is, tt)
lead_more is_placed [] placement (state ∷ states) before now lead is = absurd lead
lead_more is_placed (first ∷ placements) placement [] before now lead is = absurd lead
lead_more is_placed (first ∷ placements) placement (state ∷ states) before now lead is = (subst (λ next. is_placed first state next) (sym (first_or-more states before now)) lead.0, lead_more is_placed placements placement states before now lead.1 is)

-- the last placement, and the state before it
pub record IsParted {M : Type 0} (is_placed : M → State → State → Type 0) (placements : List M) (placement : M) (states : List State) (now : State) : Type 0 where
  pub left : List State
  pub before : State
  pub states_are : states ≡ left ++ before ∷ []
  pub is : is_placed placement before now
  pub through : LeadThrough is_placed placements left before

pub lead_last : {M : Type 0} (is_placed : M → State → State → Type 0) (placements : List M) (placement : M) (states : List State) (now : State) → LeadThrough is_placed (placements ++ placement ∷ []) states now → IsParted is_placed placements placement states now
lead_last is_placed [] placement [] now lead = absurd lead
lead_last is_placed [] placement (state ∷ []) now lead = record { left = []; before = state; states_are = refl; is = lead.0; through = tt }
lead_last is_placed [] placement (state ∷ next ∷ states) now lead = absurd lead.1
lead_last is_placed (first ∷ placements) placement [] now lead = absurd lead
lead_last is_placed (first ∷ placements) placement (state ∷ states) now lead =
    let rest = lead_last is_placed placements placement states now lead.1 in
    let next : first_or states now ≡ first_or rest.left rest.before = ap (λ ss. first_or ss now) rest.states_are ∙ first_or-more rest.left rest.before now in
    record {
      left = state ∷ rest.left;
      before = rest.before;
      states_are = ap (λ ss. state ∷ ss) rest.states_are;
      is = rest.is;
      through = (subst (λ s. is_placed first state s) next lead.0, rest.through);
    }

-- the last placement is taken back to the last of the states
pub lead_back : {M : Type 0} (is_placed : M → State → State → Type 0) (placements items : List M) (placement : M) (levels left : List State) (before now : State) → LeadThrough is_placed items levels now → items ≡ placements ++ placement ∷ [] → levels ≡ left ++ before ∷ []
    → is_placed placement before now × LeadThrough is_placed placements left before
lead_back is_placed placements items placement levels left before now lead items_are levels_are =
    let last = lead_last is_placed placements placement levels now (subst (λ list. LeadThrough is_placed list levels now) items_are lead) in
    let same = same_from_push last.left left last.before before (sym last.states_are ∙ levels_are) in (
      subst (λ state. is_placed placement state now) same.1 last.is,
      subst (λ states. LeadThrough is_placed placements states before) same.0 (subst (LeadThrough is_placed placements last.left) same.1 last.through),
    )

-- where there is a placement there is a state before it
pub lead_some : {M : Type 0} (is_placed : M → State → State → Type 0) (placements items : List M) (placement : M) (levels : List State) (now : State) → LeadThrough is_placed items levels now → items ≡ placements ++ placement ∷ [] → 0 < length levels
lead_some is_placed placements items placement levels now lead items_are =
    let last = lead_last is_placed placements placement levels now (subst (λ list. LeadThrough is_placed list levels now) items_are lead) in
    omega (arith, ap length last.states_are, length-append last.left (last.before ∷ []))

-- without placements the search stands where it began
pub lead_none : {M : Type 0} (is_placed : M → State → State → Type 0) (items : List M) (levels : List State) (now : State) → LeadThrough is_placed items levels now → items ≡ [] → first_or levels now ≡ now
lead_none is_placed items levels now lead none = empty levels (subst (λ list. LeadThrough is_placed list levels now) none lead) where
  empty : (states : List State) → LeadThrough is_placed [] states now → first_or states now ≡ now
  empty [] lead = refl
  empty (state ∷ states) lead = absurd lead

-- the state where the search began stays as it is
pub began_more : (levels now_levels : List State) (before now : State) → now_levels ≡ levels ++ before ∷ [] → first_or now_levels now ≡ first_or levels before
began_more levels now_levels before now are = ap (λ states. first_or states now) are ∙ first_or-more levels before now

-- On the way back: the placements `after` are taken back, and each was forced.
pub record IsOnTheWay {M : Type 0} (is_placed : M → State → State → Type 0) (is_forced : M → Bool) (placements : List M) (now : State) (left : List M) (here : State) : Type 0 where
  pub after : List M
  pub states : List State
  pub are : placements ≡ left ++ after
  pub forced : AreForced is_forced after
  pub through : LeadThrough is_placed after states now
  pub here_is : here ≡ first_or states now

pub on_begun : {M : Type 0} (is_placed : M → State → State → Type 0) (is_forced : M → Bool) (placements : List M) (now : State) → IsOnTheWay is_placed is_forced placements now placements now
on_begun is_placed is_forced placements now = record { after = []; states = []; are = sym (append-nil placements); forced = tt; through = tt; here_is = refl }

module _ {M : Type 0} (is_placed : M → State → State → Type 0) (is_forced : M → Bool) (placements : List M) (now : State) (lefts : List M) (here : State) (on : IsOnTheWay is_placed is_forced placements now lefts here) (left : List M) (last : M) (lefts_are : lefts ≡ left ++ last ∷ []) (before : State) (placed : is_placed last before here) where
  placements_are : placements ≡ left ++ last ∷ on.after
  placements_are = on.are ∙ ap (λ items. items ++ on.after) lefts_are ∙ append_assoc left (last ∷ []) on.after

  through : LeadThrough is_placed (last ∷ on.after) (before ∷ on.states) now
  through = (subst (is_placed last before) on.here_is placed, on.through)

  -- a forced placement was taken back
  pub on_more : is_forced last ≡ true → IsOnTheWay is_placed is_forced placements now left before
  on_more is = record { after = last ∷ on.after; states = before ∷ on.states; are = placements_are; forced = (is, on.forced); through = through; here_is = refl }

  -- a choice was taken back
  pub on_taken : is_forced last ≡ false → IsTakenBack is_placed is_forced last left before placements now
  on_taken choice = record { after = on.after; states = on.states; placements_are = placements_are; choice = choice; forced = on.forced; through = through }

-- all were taken back, and each was forced
pub on_forced : {M : Type 0} (is_placed : M → State → State → Type 0) (is_forced : M → Bool) (placements : List M) (now : State) (left : List M) (here : State) → IsOnTheWay is_placed is_forced placements now left here → left ≡ [] → AreForced is_forced placements
on_forced is_placed is_forced placements now left here on none = subst (AreForced is_forced) (sym (on.are ∙ ap (λ items. items ++ on.after) none)) on.forced

-- if there was no placement, nothing was taken back
pub on_none : {M : Type 0} (is_placed : M → State → State → Type 0) (is_forced : M → Bool) (placements : List M) (now : State) (left : List M) (here : State) → IsOnTheWay is_placed is_forced placements now left here → placements ≡ [] → here ≡ now
on_none is_placed is_forced placements now left here on none =
    let after : on.after ≡ [] = nil_from_length on.after (omega (arith, ap length (sym on.are ∙ none), length-append left on.after)) in
    on.here_is ∙ lead_none is_placed on.after on.states now on.through after

pub differs_back : (before now : State) → DiffersInEntries before now → DiffersInEntries now before
differs_back before now differs = DiffersInEntries-back before now before differs (DiffersInEntries-itself before)

pub count_more : {M : Type 0} (placements now : List M) (placement : M) (count : ℕ) → count ≡ length now → now ≡ placements ++ placement ∷ [] → count ≡ suc (length placements)
count_more placements now placement count is pushed = omega (arith, is, ap length pushed, length-append placements (placement ∷ []))

-- taking back right after a placement takes that placement back
pub taken_last : {M : Type 0} (placements left : List M) (placement : M) (taken : Option M) → placements ++ placement ∷ [] ≡ left ++ option_to_list taken → IfNone taken (placements ++ placement ∷ [] ≡ []) → (left ≡ placements) × (taken ≡ Some placement)
taken_last placements left placement None are none = absurd (omega (arith, ap length none, length-append placements (placement ∷ [])))
taken_last placements left placement (Some last) are none = let same = same_from_push placements left placement last are in (sym same.0, ap Some (sym same.1))
