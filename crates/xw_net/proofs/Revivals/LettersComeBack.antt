-- Letters that come back along a chain of lights.
use Rattle.std.proofs.Common.{◌≡◌, ℕ, ◌+◌, ◌<◌, Bool, true, false, ◌||◌, eqb, leb, cond, List, [], ◌∷◌, ◌++◌, length, set, refl, subst, sym, ap, ◌∙◌, inl, inr, arith}
use Rattle.std.specs.Prelude.{filter, bytes_eq}
use Rattle.std.proofs.lemmas.Bool.{and_parts, and_from, or_left, or_right, cases_eq, cases_Bool, both_ways, eq-eqb, eqb-true, le-leb, leb-true, false_from_ne_true}
use Rattle.std.proofs.lemmas.List.{get_or-set_same, get_or-set_other}
use Rattle.std.proofs.lemmas.Slice.Eq.{bytes_eq-Decides}
use Rattle.xw_letters.specs.Letter.{alphabet}
use Rattle.xw_letters.specs.LetterSet.{has, letters_in}
use Rattle.xw_feas.specs.Board.{Board}
use Rattle.xw_feas.specs.Feasible.{may_stand}
use Rattle.xw_feas.specs.Flags.{set_has}
use Rattle.xw_net.specs.Marks.{IsPositionIn, cell_at}
use Rattle.xw_net.specs.Spread.{HasAll, IsSpread, positions_from, either_position, no_positions, none_waits}
use Rattle.xw_net.specs.Worklist.{ListOfLights, is_marked, is_waiting, Grows}
use Rattle.xw_net.proofs.Lists.ListsOfLights.{quiet_pop}

-- ---- sets of letters by cell

pub set_has-here : (sets : List ℕ) (cell set_there letter : ℕ) → cell < length sets → set_has (set sets cell set_there) cell letter ≡ has set_there letter
set_has-here sets cell set_there letter lt = ap (λ s. has s letter) (get_or-set_same sets cell set_there 0 lt)

pub set_has-there : (sets : List ℕ) (cell other set_there letter : ℕ) → (other ≡ cell → ⊥) → set_has (set sets cell set_there) other letter ≡ set_has sets other letter
set_has-there sets cell other set_there letter n = ap (λ s. has s letter) (get_or-set_other sets cell other set_there 0 n)

filter_same : (f g : ℕ → Bool) → ((n : ℕ) → f n ≡ g n) → (xs : List ℕ) → filter f xs ≡ filter g xs
filter_same f g same [] = refl
filter_same f g same (x ∷ xs) = ap (λ b. cond b (x ∷ filter f xs) (filter f xs)) (same x) ∙ ap (λ ys. cond (g x) (x ∷ ys) ys) (filter_same f g same xs)

-- a set that has exactly the letters of another
pub same_set : (common may : ℕ) → ((letter : ℕ) → has common letter ≡ has may letter) → bytes_eq (letters_in common) (letters_in may) ≡ true
same_set common may same = (bytes_eq-Decides (letters_in common) (letters_in may)).1 (filter_same (has common) (has may) same alphabet)

-- ---- the spread

neither_true : (a b : Bool) → (a || b) ≡ false → (a ≡ false) × (b ≡ false)
neither_true true b h = cc
neither_true false b h = (refl, h)

neither_from : (a b : Bool) → a ≡ false → b ≡ false → (a || b) ≡ false
neither_from true b h k = cc
neither_from false b h k = k

module _ (board : Board) (old : ℕ → ℕ → Bool) where
  -- more lights are marked
  pub spread_grows : (new : ℕ → ℕ → Bool) (chain chain' : ListOfLights) (coming : ℕ → ℕ → Bool) → Grows chain chain'
      → IsSpread board old new (is_marked chain.marks) (is_waiting chain.lights) coming → IsSpread board old new (is_marked chain'.marks) (is_waiting chain'.lights) coming
  spread_grows new chain chain' coming grows spread = record {
    on = λ i q here m quiet later. let before = grows.fresh i m quiet in spread.on i q here before.0 before.1 later;
    reaches = λ i q l here now not_old. grows.more i (spread.reaches i q l here now not_old);
    from = spread.from;
    stay = spread.stay;
  }

  -- a cell gets all letters that it allows, and the lights through it are marked
  pub spread_raise : (letters : List ℕ) (cell may : ℕ) (marked waiting : ℕ → Bool) (coming : ℕ → ℕ → Bool) → cell < length letters
      → ((letter : ℕ) → has may letter ≡ may_stand board cell letter)
      → ((light position : ℕ) → IsPositionIn board light position → cell_at board light position ≡ cell → marked light ≡ true)
      → IsSpread board old (set_has letters) marked waiting coming → IsSpread board old (set_has (set letters cell may)) marked waiting coming
  spread_raise letters cell may marked waiting coming lt is through spread = record {
    on = λ i q here m quiet later l may_here. keeps (cell_at board i q) l may_here (spread.on i q here m quiet later l may_here);
    reaches = λ i q l here now not_old.
        elim (cases_eq (cell_at board i q) cell) [
          | inl e ↦ through i q here e
          | inr n ↦ spread.reaches i q l here (sym (set_has-there letters cell (cell_at board i q) may l n) ∙ now) not_old
        ];
    from = λ c l now.
        elim (cases_eq c cell) [
          | inl e ↦ or_right (old c l) (may_stand board c l) (ap (λ x. may_stand board x l) e ∙ sym (at_cell l) ∙ sym (ap (λ x. set_has (set letters cell may) x l) e) ∙ now)
          | inr n ↦ spread.from c l (sym (set_has-there letters cell c may l n) ∙ now)
        ];
    stay = λ c l may_here was. keeps c l may_here (spread.stay c l may_here was);
  }
    where
      at_cell : (l : ℕ) → set_has (set letters cell may) cell l ≡ may_stand board cell l
      at_cell l = set_has-here letters cell may l lt ∙ is l

      keeps : (c l : ℕ) → may_stand board c l ≡ true → set_has letters c l ≡ true → set_has (set letters cell may) c l ≡ true
      keeps c l may_here h =
          elim (cases_eq c cell) [
            | inl e ↦ ap (λ x. set_has (set letters cell may) x l) e ∙ at_cell l ∙ ap (λ x. may_stand board x l) (sym e) ∙ may_here
            | inr n ↦ set_has-there letters cell c may l n ∙ h
          ]

  -- more positions are still to come
  pub spread_fewer : (new : ℕ → ℕ → Bool) (marked waiting : ℕ → Bool) (coming coming' : ℕ → ℕ → Bool)
      → ((light position : ℕ) → coming' light position ≡ false → coming light position ≡ false)
      → IsSpread board old new marked waiting coming → IsSpread board old new marked waiting coming'
  spread_fewer new marked waiting coming coming' more spread = record {
    on = λ i q here m quiet later. spread.on i q here m quiet (more i q later);
    reaches = spread.reaches;
    from = spread.from;
    stay = spread.stay;
  }

  -- a light is popped: all its positions are still to come
  pub spread_taken : (new : ℕ → ℕ → Bool) (marked : ℕ → Bool) (coming : ℕ → ℕ → Bool) (taken taken' : List ℕ) (o : ℕ) → taken ≡ taken' ++ o ∷ []
      → IsSpread board old new marked (is_waiting taken) coming → IsSpread board old new marked (is_waiting taken') (either_position (positions_from o 0) coming)
  spread_taken new marked coming taken taken' o is spread = record {
    on = λ i q here m quiet later.
        let neither = neither_true (positions_from o 0 i q) (coming i q) later in
        elim (cases_eq i o) [
          | inl e ↦ absurd (both_ways (positions_from o 0 i q) neither.0 (and_from (eqb i o) (leb 0 q) (eq-eqb i o e) (le-leb 0 q (omega arith))))
          | inr n ↦ spread.on i q here m (quiet_pop taken taken' o i is n quiet) neither.1
        ];
    reaches = spread.reaches;
    from = spread.from;
    stay = spread.stay;
  }

  -- one position is done
  pub spread_position : (new : ℕ → ℕ → Bool) (marked waiting : ℕ → Bool) (coming : ℕ → ℕ → Bool) (o p : ℕ) → HasAll board new (cell_at board o p)
      → IsSpread board old new marked waiting (either_position (positions_from o p) coming) → IsSpread board old new marked waiting (either_position (positions_from o (p + 1)) coming)
  spread_position new marked waiting coming o p done spread = record {
    on = λ i q here m quiet later.
        let neither = neither_true (positions_from o (p + 1) i q) (coming i q) later in
        elim (cases_Bool (positions_from o p i q)) [
          | inr before ↦ spread.on i q here m quiet (neither_from (positions_from o p i q) (coming i q) before neither.1)
          | inl now ↦
              let both = and_parts (eqb i o) (leb p q) now in
              let light = eqb-true i o both.0 in
              elim (cases_eq q p) [
                | inl e ↦
                    let cell : cell_at board o p ≡ cell_at board i q = ap (λ n. cell_at board n p) (sym light) ∙ ap (cell_at board i) (sym e) in
                    subst (HasAll board new) cell done
                | inr n ↦ absurd (both_ways (positions_from o (p + 1) i q) neither.0 (and_from (eqb i o) (leb (p + 1) q) both.0 (le-leb (p + 1) q (omega (arith, leb-true p q both.1, n)))))
              ]
        ];
    reaches = spread.reaches;
    from = spread.from;
    stay = spread.stay;
  }

  -- after the last position of the light nothing of it is to come
  pub spread_light : (new : ℕ → ℕ → Bool) (marked waiting : ℕ → Bool) (coming : ℕ → ℕ → Bool) (o p : ℕ) → ((q : ℕ) → IsPositionIn board o q → q < p)
      → IsSpread board old new marked waiting (either_position (positions_from o p) coming) → IsSpread board old new marked waiting coming
  spread_light new marked waiting coming o p short spread = record {
    on = λ i q here m quiet later.
        spread.on i q here m quiet
        (neither_from (positions_from o p i q) (coming i q) (false_from_ne_true (positions_from o p i q) (λ h.
        let both = and_parts (eqb i o) (leb p q) h in
        let Position : ℕ → Type 0 = λ n. IsPositionIn board n q in
        let lt = short q (subst Position (eqb-true i o both.0) here) in
        absurd (omega (arith, lt, leb-true p q both.1)))) later);
    reaches = spread.reaches;
    from = spread.from;
    stay = spread.stay;
  }

  -- nothing of a light is to come whose positions may lack letters
  pub spread_passed : (new : ℕ → ℕ → Bool) (marked waiting : ℕ → Bool) (barren : ℕ → Bool) (o : ℕ) → barren o ≡ true
      → IsSpread board old new marked waiting (either_position (positions_from o 0) (λ light position. barren light)) → IsSpread board old new marked waiting (λ light position. barren light)
  spread_passed new marked waiting barren o is spread =
      spread_fewer new marked waiting (either_position (positions_from o 0) (λ light position. barren light)) (λ light position. barren light)
      (λ i q later. neither_from (positions_from o 0 i q) (barren i) (false_from_ne_true (positions_from o 0 i q) (λ h.
      let both = and_parts (eqb i o) (leb 0 q) h in
      both_ways (barren i) later (ap barren (eqb-true i o both.0) ∙ is))) later)
      spread

  -- if an allowed letter is missing at a cell, it comes back there
  pub lacks_old : (new : ℕ → ℕ → Bool) (marked waiting : ℕ → Bool) (coming : ℕ → ℕ → Bool) (cell : ℕ) → IsSpread board old new marked waiting coming
      → ¬ HasAll board new cell → ¬ HasAll board old cell
  lacks_old new marked waiting coming cell spread lacks all = lacks (λ l may. spread.stay cell l may (all l may))

-- ---- the first and the last step

module _ (board : Board) where
  -- at the start the marked lights are on the list
  pub spread_start : (letters : ℕ → ℕ → Bool) (marked waiting : ℕ → Bool) → ((light : ℕ) → marked light ≡ waiting light) → IsSpread board letters letters marked waiting no_positions
  spread_start letters marked waiting seeds = record {
    on = λ i q here m quiet later. absurd (both_ways (waiting i) quiet (sym (seeds i) ∙ m));
    reaches = λ i q l here now not_old. absurd (both_ways (letters (cell_at board i q) l) not_old now);
    from = λ c l now. or_left (letters c l) (may_stand board c l) now;
    stay = λ c l may was. was;
  }

  -- at the end no light is on the list
  pub spread_end : (old new : ℕ → ℕ → Bool) (marked waiting : ℕ → Bool) (coming : ℕ → ℕ → Bool) → ((light : ℕ) → waiting light ≡ false)
      → IsSpread board old new marked waiting coming → IsSpread board old new marked none_waits coming
  spread_end old new marked waiting coming none spread = record {
    on = λ i q here m quiet later. spread.on i q here m (none i) later;
    reaches = spread.reaches;
    from = spread.from;
    stay = spread.stay;
  }
