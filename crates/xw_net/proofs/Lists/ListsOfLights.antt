-- Lists of lights: marks, and lights that wait.
use Rattle.std.proofs.Common.{◌≡◌, ℕ, ◌+◌, ◌<◌, ◌≤◌, Bool, true, false, not, ◌||◌, eqb, cond, List, [], ◌∷◌, ◌++◌, length, get_or, set, refl, subst, sym, ap, ◌∙◌, inl, inr, arith}
use Rattle.std.specs.List.{list_any, IsDistinct, AllByRecursion}
use Rattle.std.specs.List.Sorted.{IsPermutation}
use Rattle.std.proofs.lemmas.Bool.{or_left, or_right, or_cases, cases_eq, cases_lt, cases_Bool, both_ways, eq-eqb, eqb-true, cond-true, cond-false, false_from_ne_true}
use Rattle.std.proofs.lemmas.Cmp.{nat_eq_equiv}
use Rattle.std.proofs.lemmas.List.{get_or-set_same, get_or-set_other, get_or_past, get_or_push, get_or_append_left, set_past, length-set, length-append}
use Rattle.std.proofs.lemmas.List.Folds.{list_any-append, list_any_at}
use Rattle.std.proofs.lemmas.List.Sorted.{IsPermutation-append_comm, list_any-IsPermutation}
use Rattle.std.proofs.lemmas.List.Sums.{sum_by-set}
use Rattle.std.proofs.lemmas.Map.Keys.{IsDistinct-push, IsDistinct-tail, IsDistinct-IsPermutation}
use Rattle.std.proofs.lemmas.Map.Steps.{length-le_from_distinct_below}
use Rattle.std.specs.Prelude.{◌⊎◌}
use Rattle.xw_net.specs.Worklist.{ListOfLights, is_marked, is_waiting, unmarked, IsWorklist, ArePlaced, IsKeptList, IsTakenFrom, Grows, HasSeeds, MarksOnly, Adds}

-- ---- lights that wait

or_false : (t : Bool) → (t || false) ≡ t
or_false true = refl
or_false false = refl

pub waiting-push : (lights : List ℕ) (o i : ℕ) → is_waiting (lights ++ o ∷ []) i ≡ (is_waiting lights i || eqb o i)
unfolding is_waiting
waiting-push lights o i = list_any-append (λ n. eqb n i) lights (o ∷ []) ∙ ap (λ t. list_any (λ n. eqb n i) lights || t) (or_false (eqb o i))

pub waiting-none : (lights : List ℕ) (i : ℕ) → lights ≡ [] → is_waiting lights i ≡ false
unfolding is_waiting
waiting-none lights i empty = ap (λ l. is_waiting l i) empty

-- the two orders in which a light is compared with those that wait
waiting-any : (lights : List ℕ) (i : ℕ) → is_waiting lights i ≡ list_any (eqb i) lights
unfolding is_waiting
waiting-any [] i = refl
waiting-any (x ∷ xs) i = ap (λ b. b || is_waiting xs i) (nat_eq_equiv.symm x i) ∙ ap (λ b. eqb i x || b) (waiting-any xs i)

-- after the last light was taken, every light that still waits waited
pub waits_pop : (lights lights' : List ℕ) (o i : ℕ) → lights ≡ lights' ++ o ∷ [] → is_waiting lights' i ≡ true → is_waiting lights i ≡ true
waits_pop lights lights' o i is h = ap (λ l. is_waiting l i) is ∙ waiting-push lights' o i ∙ or_left (is_waiting lights' i) (eqb o i) h

-- only the last light no longer waits
pub quiet_pop : (lights lights' : List ℕ) (o i : ℕ) → lights ≡ lights' ++ o ∷ [] → (i ≡ o → ⊥) → is_waiting lights' i ≡ false → is_waiting lights i ≡ false
quiet_pop lights lights' o i is n h =
    false_from_ne_true (is_waiting lights i) (λ w. elim (or_cases (is_waiting lights' i) (eqb o i) (sym (ap (λ l. is_waiting l i) is ∙ waiting-push lights' o i) ∙ w)) [
      | inl waits ↦ both_ways (is_waiting lights' i) h waits
      | inr e ↦ n (sym (eqb-true o i e))
    ])

-- ---- marks

-- a marked light stays marked
pub marked_more : (marks : List Bool) (o i : ℕ) → is_marked marks i ≡ true → is_marked (set marks o true) i ≡ true
unfolding is_marked
marked_more marks o i h =
    elim (cases_eq i o) [
      | inl e ↦
          elim (cases_lt o (length marks)) [
            | inl lt ↦ ap (λ n. get_or (set marks o true) n false) e ∙ get_or-set_same marks o true false lt
            | inr past ↦ ap (λ l. get_or l i false) (set_past marks o true past) ∙ h
          ]
      | inr n ↦ get_or-set_other marks o i true false n ∙ h
    ]

pub marked_now : (marks : List Bool) (o : ℕ) → o < length marks → is_marked (set marks o true) o ≡ true
unfolding is_marked
marked_now marks o lt = get_or-set_same marks o true false lt

pub marked_before : (marks : List Bool) (o i : ℕ) → (i ≡ o → ⊥) → is_marked (set marks o true) i ≡ true → is_marked marks i ≡ true
unfolding is_marked
marked_before marks o i n h = sym (get_or-set_other marks o i true false n) ∙ h

pub marked_still : (marks : List Bool) (o i : ℕ) → (i ≡ o → ⊥) → is_marked marks i ≡ true → is_marked (set marks o false) i ≡ true
unfolding is_marked
marked_still marks o i n h = get_or-set_other marks o i false false n ∙ h

pub marked_below : (marks : List Bool) (i : ℕ) → is_marked marks i ≡ true → i < length marks
unfolding is_marked
marked_below marks i h =
    elim (cases_lt i (length marks)) [
      | inl lt ↦ lt
      | inr past ↦ absurd (both_ways (get_or marks i false) (get_or_past marks i false past) h)
    ]

-- ---- the invariant

-- there is room for all lights that wait
pub few_wait : (marks : List Bool) (lights : List ℕ) (room : ℕ) → IsWorklist marks lights room → length lights ≤ length marks
few_wait marks lights room list =
    length-le_from_distinct_below lights (length marks) list.once (λ i h. marked_below marks i (list.marked i (waiting-any lights i ∙ h)))

idle_list : (light : ℕ) → is_waiting [] light ≡ true → ⊥
idle_list light h = both_ways (is_waiting [] light) (waiting-none [] light refl) h

pub empty_list : (marks : List Bool) (lights : List ℕ) (room : ℕ) → lights ≡ [] → length marks ≤ room → IsWorklist marks lights room
unfolding IsDistinct
empty_list marks lights room empty roomy =
    subst (λ l. IsWorklist marks l room) (sym empty) (record { marked = λ light h. absurd (idle_list light h); once = tt; roomy = roomy })

pub inserted_list : (marks : List Bool) (lights : List ℕ) (room room' light : ℕ) → IsWorklist marks lights room → room ≤ room' → light < length marks → is_marked marks light ≡ false
    → IsWorklist (set marks light true) (lights ++ light ∷ []) room'
inserted_list marks lights room room' light list more lt new = record {
  marked = λ i h. elim (or_cases (is_waiting lights i) (eqb light i) (sym (waiting-push lights light i) ∙ h)) [
    | inl w ↦ marked_more marks light i (list.marked i w)
    | inr e ↦ ap (is_marked (set marks light true)) (sym (eqb-true light i e)) ∙ marked_now marks light lt
  ];
  once = IsDistinct-push nat_eq_equiv lights light list.once (sym (waiting-any lights light) ∙ false_from_ne_true (is_waiting lights light) (λ w. both_ways (is_marked marks light) new (list.marked light w)));
  roomy = omega (arith, list.roomy, more, length-set marks light true);
}

-- so there is room for one more light that is not marked
pub room_for : (marks : List Bool) (lights : List ℕ) (room light : ℕ) → IsWorklist marks lights room → light < length marks → is_marked marks light ≡ false → length lights < room
room_for marks lights room light list lt new =
    let more = few_wait (set marks light true) (lights ++ light ∷ []) room (inserted_list marks lights room room light list (omega arith) lt new) in
    omega (arith, more, length-append lights (light ∷ []), length-set marks light true, list.roomy)

apart_absent : (light : ℕ) (lights : List ℕ) → AllByRecursion (λ other. eqb light other ≡ false) lights → is_waiting lights light ≡ false
unfolding is_waiting
apart_absent light [] h = refl
apart_absent light (x ∷ xs) h = ap (λ b. b || is_waiting xs light) (nat_eq_equiv.symm x light ∙ h.0) ∙ apart_absent light xs h.1

head_absent : (light : ℕ) (lights : List ℕ) → IsDistinct eqb (light ∷ lights) → is_waiting lights light ≡ false
unfolding IsDistinct
head_absent light lights h = apart_absent light lights h.0

module _ (marks : List Bool) (lights rest : List ℕ) (room light : ℕ) (list : IsWorklist marks lights room) (moved : IsPermutation lights (light ∷ rest)) where
  distinct : IsDistinct eqb (light ∷ rest)
  distinct = IsDistinct-IsPermutation eqb (λ x y. nat_eq_equiv.symm x y) lights (light ∷ rest) moved list.once

  waited : (other : ℕ) → is_waiting (light ∷ rest) other ≡ true → is_waiting lights other ≡ true
  unfolding is_waiting
  waited other h = list_any-IsPermutation (λ n. eqb n other) lights (light ∷ rest) moved ∙ h

  pub taken_list : IsWorklist marks rest room
  unfolding is_waiting
  taken_list = record {
    marked = λ i h. list.marked i (waited i (or_right (eqb light i) (is_waiting rest i) h));
    once = IsDistinct-tail eqb light rest distinct;
    roomy = list.roomy;
  }

  pub taken_once : is_waiting rest light ≡ false
  taken_once = head_absent light rest distinct

  pub taken_marked : is_marked marks light ≡ true
  unfolding is_waiting
  taken_marked = list.marked light (waited light (or_left (eqb light light) (is_waiting rest light) (eq-eqb light light refl)))

-- the last light is taken
pub last_moved : (rest : List ℕ) (light : ℕ) (lights : List ℕ) → lights ≡ rest ++ light ∷ [] → IsPermutation lights (light ∷ rest)
last_moved rest light lights is = subst (λ l. IsPermutation l (light ∷ rest)) (sym is) (IsPermutation-append_comm rest (light ∷ []))

pub released_list : (marks : List Bool) (lights : List ℕ) (room light : ℕ) → IsWorklist marks lights room → is_waiting lights light ≡ false → IsWorklist (set marks light false) lights room
released_list marks lights room light list gone = record {
  marked = λ i h. marked_still marks light i (λ e. both_ways (is_waiting lights light) gone (ap (is_waiting lights) (sym e) ∙ h)) (list.marked i h);
  once = list.once;
  roomy = omega (arith, list.roomy, length-set marks light false);
}

-- ---- the places of the lights that wait

list_places : (marks : List Bool) (lights places : List ℕ) (capacity : ℕ) → IsKeptList marks lights places capacity → (i : ℕ) → i < length lights → get_or lights i 0 < length places
unfolding is_waiting
list_places marks lights places capacity kept i lt =
    omega (arith, marked_below marks (get_or lights i 0) (kept.list.marked (get_or lights i 0) (list_any_at (λ n. eqb n (get_or lights i 0)) lights i 0 lt (eq-eqb (get_or lights i 0) (get_or lights i 0) refl))), kept.list.roomy)

pub kept_empty : (marks : List Bool) (lights places : List ℕ) (capacity : ℕ) → lights ≡ [] → length marks ≤ length places → length places ≤ capacity → IsKeptList marks lights places capacity
kept_empty marks lights places capacity empty roomy held = record {
  list = empty_list marks lights (length places) empty roomy;
  placed = λ i lt. absurd (omega (arith, lt, ap length empty));
  held = held;
}

module _ (marks : List Bool) (lights places : List ℕ) (capacity : ℕ) (kept : IsKeptList marks lights places capacity) where
  -- more marks, or fewer, without a change of the list
  pub kept_marked : (marks' : List Bool) → IsWorklist marks' lights (length places) → IsKeptList marks' lights places capacity
  kept_marked marks' list = record { list = list; placed = kept.placed; held = kept.held }

  -- there is room for more lights
  pub kept_longer : (places' : List ℕ) (capacity' : ℕ) → ((light : ℕ) → light < length places → get_or places' light 0 ≡ get_or places light 0) → length places ≤ length places' → length places' ≤ capacity' → IsKeptList marks lights places' capacity'
  kept_longer places' capacity' same longer held = record {
    list = record { marked = kept.list.marked; once = kept.list.once; roomy = omega (arith, kept.list.roomy, longer) };
    placed = λ i lt. same (get_or lights i 0) (list_places marks lights places capacity kept i lt) ∙ kept.placed i lt;
    held = held;
  }

  -- one more light waits, at the end
  module _ (light capacity' : ℕ) (lt : light < length marks) (new : is_marked marks light ≡ false) (more : capacity ≤ capacity') where
    stays : (i : ℕ) → i < length lights → get_or lights i 0 ≡ light → ⊥
    unfolding is_waiting
    stays i few e =
        both_ways (is_marked marks light) new
        (kept.list.marked light (list_any_at (λ n. eqb n light) lights i 0 few (eq-eqb (get_or lights i 0) light e)))

    placed_now : ArePlaced (lights ++ light ∷ []) (set places light (length lights))
    placed_now i few = elim (cases_eq i (length lights)) [
      | inl last ↦
          let read : get_or (lights ++ light ∷ []) i 0 ≡ light = get_or_push lights light 0 i (sym last) in
          ap (λ n. get_or (set places light (length lights)) n 0) read ∙ get_or-set_same places light (length lights) 0 (omega (arith, lt, kept.list.roomy)) ∙ sym last
      | inr apart ↦
          let below : i < length lights = omega (arith, few, apart, length-append lights (light ∷ [])) in
          let read : get_or (lights ++ light ∷ []) i 0 ≡ get_or lights i 0 = get_or_append_left lights (light ∷ []) 0 i below in
          ap (λ n. get_or (set places light (length lights)) n 0) read ∙ get_or-set_other places light (get_or lights i 0) (length lights) 0 (stays i below) ∙ kept.placed i below
    ]

    pub kept_inserted : IsKeptList (set marks light true) (lights ++ light ∷ []) (set places light (length lights)) capacity'
    kept_inserted = record {
      list = inserted_list marks lights (length places) (length (set places light (length lights))) light kept.list (omega (arith, length-set places light (length lights))) lt new;
      placed = placed_now;
      held = omega (arith, kept.held, more, length-set places light (length lights));
    }

  -- the last light was taken
  pub kept_popped : (rest : List ℕ) (light : ℕ) → lights ≡ rest ++ light ∷ [] → IsKeptList marks rest places capacity
  kept_popped rest light is = record {
    list = taken_list marks lights rest (length places) light kept.list (last_moved rest light lights is);
    placed = λ i few.
        let read : get_or lights i 0 ≡ get_or rest i 0 = ap (λ l. get_or l i 0) is ∙ get_or_append_left rest (light ∷ []) 0 i few in
        ap (λ n. get_or places n 0) (sym read) ∙ kept.placed i (omega (arith, few, ap length is, length-append rest (light ∷ [])));
    held = kept.held;
  }

  -- the light at an index was taken, the last one moved there, and that was noted
  module _ (rest places' : List ℕ) (light from : ℕ) (moved : IsPermutation lights (light ∷ rest)) (taken : IsTakenFrom lights rest from)
      (noted : from < length rest → places' ≡ set places (get_or rest from 0) from) (same : length rest ≤ from → places' ≡ places) where
    last_at : from < length rest → get_or rest from 0 ≡ get_or lights (length rest) 0
    last_at = taken.there

    as_long : length places' ≡ length places
    as_long = elim (cases_lt from (length rest)) [
      | inl lt ↦ ap length (noted lt) ∙ length-set places (get_or rest from 0) from
      | inr past ↦ ap length (same past)
    ]

    placed_moved : from < length rest → (i : ℕ) → i < length rest → get_or places' (get_or rest i 0) 0 ≡ i
    placed_moved lt i few = elim (cases_eq i from) [
      | inl here ↦
          let within : get_or rest from 0 < length places = subst (λ n. n < length places) (sym (last_at lt)) (list_places marks lights places capacity kept (length rest) (omega (arith, taken.less))) in
          ap (λ l. get_or l (get_or rest i 0) 0) (noted lt) ∙ ap (λ n. get_or (set places (get_or rest from 0) from) (get_or rest n 0) 0) here ∙ get_or-set_same places (get_or rest from 0) from 0 within ∙ sym here
      | inr apart ↦
          let read = taken.others i few apart in
          let other : get_or rest i 0 ≡ get_or rest from 0 → ⊥ = λ e.
          let one : get_or places (get_or lights i 0) 0 ≡ i = kept.placed i (omega (arith, few, taken.less)) in
          let two : get_or places (get_or lights (length rest) 0) 0 ≡ length rest = kept.placed (length rest) (omega (arith, taken.less)) in
          omega (arith, few, one, two, ap (λ n. get_or places n 0) (sym read ∙ e ∙ last_at lt)) in
          ap (λ l. get_or l (get_or rest i 0) 0) (noted lt) ∙ get_or-set_other places (get_or rest from 0) (get_or rest i 0) from 0 other ∙ ap (λ n. get_or places n 0) read ∙ kept.placed i (omega (arith, few, taken.less))
    ]

    placed_past : length rest ≤ from → (i : ℕ) → i < length rest → get_or places' (get_or rest i 0) 0 ≡ i
    placed_past past i few =
        ap (λ l. get_or l (get_or rest i 0) 0) (same past) ∙ ap (λ n. get_or places n 0) (taken.others i few (λ e. omega (arith, e, few, past))) ∙ kept.placed i (omega (arith, few, taken.less))

    pub kept_taken : IsKeptList marks rest places' capacity
    kept_taken = record {
      list = subst (IsWorklist marks rest) (sym as_long) (taken_list marks lights rest (length places) light kept.list moved);
      placed = λ i few. elim (cases_lt from (length rest)) [
        | inl lt ↦ placed_moved lt i few
        | inr past ↦ placed_past past i few
      ];
      held = omega (arith, as_long, kept.held);
    }

-- after a light was taken, every other light still waits
pub waits_taken : (lights rest : List ℕ) (light other : ℕ) → IsPermutation lights (light ∷ rest) → (other ≡ light → ⊥) → is_waiting lights other ≡ true → is_waiting rest other ≡ true
unfolding is_waiting
waits_taken lights rest light other moved apart h =
    elim (or_cases (eqb light other) (is_waiting rest other) (sym (list_any-IsPermutation (λ n. eqb n other) lights (light ∷ rest) moved) ∙ h)) [
      | inl e ↦ absurd (apart (sym (eqb-true light other e)))
      | inr w ↦ w
    ]

-- ---- growing

module _ (marks : List Bool) (lights : List ℕ) (o : ℕ) (lights' : List ℕ) (is : lights' ≡ cond (is_marked marks o) lights (lights ++ o ∷ [])) where
  still_waits : (n : ℕ) → is_waiting lights n ≡ true → is_waiting lights' n ≡ true
  still_waits n w =
      elim (cases_Bool (is_marked marks o)) [
        | inl m ↦ ap (λ l. is_waiting l n) (is ∙ cond-true (is_marked marks o) lights (lights ++ o ∷ []) m) ∙ w
        | inr m ↦ ap (λ l. is_waiting l n) (is ∙ cond-false (is_marked marks o) lights (lights ++ o ∷ []) m) ∙ waiting-push lights o n ∙ or_left (is_waiting lights n) (eqb o n) w
      ]

  insert_fresh : (i : ℕ) → is_marked (set marks o true) i ≡ true → is_waiting lights' i ≡ false → (is_marked marks i ≡ true) × (is_waiting lights i ≡ false)
  insert_fresh i h quiet =
      let quiet_before : is_waiting lights i ≡ false = false_from_ne_true (is_waiting lights i) (λ w. both_ways (is_waiting lights' i) quiet (still_waits i w)) in
      elim (cases_eq i o) [
        | inr n ↦ (marked_before marks o i n h, quiet_before)
        | inl e ↦
            elim (cases_Bool (is_marked marks o)) [
              | inl m ↦ (ap (is_marked marks) e ∙ m, quiet_before)
              | inr m ↦
                  absurd (both_ways (is_waiting lights' i) quiet
                  (ap (λ l. is_waiting l i) (is ∙ cond-false (is_marked marks o) lights (lights ++ o ∷ []) m)
                  ∙ waiting-push lights o i ∙ or_right (is_waiting lights i) (eqb o i) (eq-eqb o i (sym e))))
            ]
      ]

  insert_waits : o < length marks → ((light : ℕ) → is_waiting lights light ≡ true → is_marked marks light ≡ true) → (i : ℕ) → is_waiting lights' i ≡ true → is_marked (set marks o true) i ≡ true
  insert_waits lt waits i h =
      elim (cases_Bool (is_marked marks o)) [
        | inl m ↦ marked_more marks o i (waits i (sym (ap (λ l. is_waiting l i) (is ∙ cond-true (is_marked marks o) lights (lights ++ o ∷ []) m)) ∙ h))
        | inr m ↦
            elim (or_cases (is_waiting lights i) (eqb o i)
            (sym (ap (λ l. is_waiting l i) (is ∙ cond-false (is_marked marks o) lights (lights ++ o ∷ []) m) ∙ waiting-push lights o i) ∙ h)) [
              | inl w ↦ marked_more marks o i (waits i w)
              | inr e ↦ ap (is_marked (set marks o true)) (sym (eqb-true o i e)) ∙ marked_now marks o lt
            ]
      ]

  insert_left : o < length marks → length lights' + unmarked (set marks o true) ≡ length lights + unmarked marks
  unfolding is_marked
  insert_left lt =
      let one : Bool → ℕ = λ mark. cond (not mark) 1 0 in
      let counted = sum_by-set one marks o true false lt in
      elim (cases_Bool (is_marked marks o)) [
        | inl m ↦ omega (arith, ap length (is ∙ cond-true (is_marked marks o) lights (lights ++ o ∷ []) m), ap one m, counted)
        | inr m ↦ omega (arith, ap length (is ∙ cond-false (is_marked marks o) lights (lights ++ o ∷ []) m), length-append lights (o ∷ []), ap one m, counted)
      ]

pub grows_insert : (old new : ListOfLights) (o : ℕ) → o < length old.marks → new.marks ≡ set old.marks o true → new.lights ≡ cond (is_marked old.marks o) old.lights (old.lights ++ o ∷ []) → Grows old new
grows_insert old new o lt marks lights =
    let P : List Bool → Type 0 = λ m. Grows old (record { marks = m; lights = new.lights; room = new.room }) in
    subst P (sym marks) (record {
      size = length-set old.marks o true;
      more = λ i h. marked_more old.marks o i h;
      fresh = insert_fresh old.marks old.lights o new.lights lights;
      waits = insert_waits old.marks old.lights o new.lights lights lt;
      left = insert_left old.marks old.lights o new.lights lights lt;
    })

pub grows_none : (list : ListOfLights) → Grows list list
grows_none list = record { size = refl; more = λ i h. h; fresh = λ i h w. (h, w); waits = λ waits. waits; left = refl }

pub grows_more : (list list' list'' : ListOfLights) → Grows list list' → Grows list' list'' → Grows list list''
grows_more list list' list'' first second = record {
  size = second.size ∙ first.size;
  more = λ i h. second.more i (first.more i h);
  fresh = λ i h w. let mid = second.fresh i h w in first.fresh i mid.0 mid.1;
  waits = λ waits. second.waits (first.waits waits);
  left = second.left ∙ first.left;
}

-- the lights that wait are still the marked ones
pub seeds_grow : (list list' : ListOfLights) → Grows list list' → HasSeeds list → HasSeeds list'
seeds_grow list list' grows seeds light =
    elim (cases_Bool (is_marked list'.marks light)) [
      | inl m ↦
          elim (cases_Bool (is_waiting list'.lights light)) [
            | inl w ↦ m ∙ sym w
            | inr quiet ↦ let before = grows.fresh light m quiet in absurd (both_ways (is_waiting list.lights light) before.1 (sym (seeds light) ∙ before.0))
          ]
      | inr n ↦
          n ∙ sym (false_from_ne_true (is_waiting list'.lights light) (λ w. both_ways (is_marked list'.marks light) n (grows.waits (λ i h. seeds i ∙ h) light w)))
    ]

-- ---- lights that were put on the list

pub adds_insert : (old new : ListOfLights) (o : ℕ) → o < length old.marks → new.marks ≡ set old.marks o true → Grows old new → Adds (λ light. light ≡ o) old new
adds_insert old new o lt marks grows = record {
  grows = grows;
  all = λ light e. ap (λ m. is_marked m light) marks ∙ ap (is_marked (set old.marks o true)) e ∙ marked_now old.marks o lt;
  only = λ member start these light h.
      elim (cases_eq light o) [
        | inl e ↦ these light e
        | inr n ↦ start light (marked_before old.marks o light n (sym (ap (λ m. is_marked m light) marks) ∙ h))
      ];
}

pub adds_none : (these : ℕ → Type 0) (list : ListOfLights) → ((light : ℕ) → these light → ⊥) → Adds these list list
adds_none these list none = record { grows = grows_none list; all = λ light is. absurd (none light is); only = λ member start all. start }

pub adds_as : (some these : ℕ → Type 0) (old new : ListOfLights) → ((light : ℕ) → some light → these light) → ((light : ℕ) → these light → some light) → Adds some old new → Adds these old new
adds_as some these old new to from adds = record {
  grows = adds.grows;
  all = λ light is. adds.all light (from light is);
  only = λ member start all. adds.only member start (λ light is. all light (to light is));
}

pub adds_more : (first second both : ℕ → Type 0) (list list' list'' : ListOfLights) → ((light : ℕ) → first light → both light) → ((light : ℕ) → second light → both light) → ((light : ℕ) → both light → first light ⊎ second light)
    → Adds first list list' → Adds second list' list'' → Adds both list list''
adds_more first second both list list' list'' early late split a b = record {
  grows = grows_more list list' list'' a.grows b.grows;
  all = λ light is. elim (split light is) [
    | inl was ↦ b.grows.more light (a.all light was)
    | inr now ↦ b.all light now
  ];
  only = λ member start all. b.only member (a.only member start (λ light is. all light (early light is))) (λ light is. all light (late light is));
}

-- a loop over the lights: none, one more, and all
pub adds_start : (these : ℕ → Type 0) (list : ListOfLights) → Adds (λ light. (light < 0) × these light) list list
adds_start these list = adds_none (λ light. (light < 0) × these light) list (λ light is. omega (arith, is.0))

pub adds_next : (these : ℕ → Type 0) (n : ℕ) (list list' list'' : ListOfLights) → Adds (λ light. (light < n) × these light) list list' → Adds (λ light. (light ≡ n) × these light) list' list''
    → Adds (λ light. (light < n + 1) × these light) list list''
adds_next these n list list' list'' =
    adds_more (λ light. (light < n) × these light) (λ light. (light ≡ n) × these light) (λ light. (light < n + 1) × these light) list list' list''
    (λ light is. (omega (arith, is.0), is.1)) (λ light is. (omega (arith, is.0), is.1))
    (λ light is. elim (cases_eq light n) [ inl e ↦ inr (e, is.1) | inr n' ↦ inl (omega (arith, is.0, n'), is.1) ])

pub adds_end : (these : ℕ → Type 0) (n count : ℕ) (list list' : ListOfLights) → n ≡ count → Adds (λ light. (light < n) × these light) list list' → Adds (λ light. (light < count) × these light) list list'
adds_end these n count list list' e = subst (λ k. Adds (λ light. (light < k) × these light) list list') e

pub only_as : (some these : ℕ → Type 0) (old new : ListOfLights) → ((light : ℕ) → some light → these light) → MarksOnly some old new → MarksOnly these old new
only_as some these old new to only member start all = only member start (λ light is. all light (to light is))

-- a light that waits if it is marked still does
pub waits_grow : (list list' : ListOfLights) (light : ℕ) → Grows list list' → (is_marked list.marks light ≡ true → is_waiting list.lights light ≡ true) → is_marked list'.marks light ≡ true → is_waiting list'.lights light ≡ true
waits_grow list list' light grows waits on =
    elim (cases_Bool (is_waiting list'.lights light)) [
      | inl w ↦ w
      | inr quiet ↦ let before = grows.fresh light on quiet in absurd (both_ways (is_waiting list.lights light) before.1 (waits before.0))
    ]
