-- Stacks of frames.
use Rattle.std.proofs.Common.{◌≡◌, ℕ, Bool, true, false, ◌||◌, ◌==◌, List, [], ◌∷◌, ◌++◌, set, Option, Some, None, refl, sym, ◌∙◌, ap, subst, inl, inr}
use Rattle.std.specs.Prelude.{◌⊎◌}
use Rattle.std.proofs.lemmas.Bool.{cases_Bool, true≢false, eqb-true}
use Rattle.xw_letters.specs.LetterSet.{has}
use Rattle.xw_search.specs.Position.{Position}
use Rattle.xw_search.specs.NamedFill.{entry_in}
use Rattle.xw_search.specs.Progress.{is_target, HasNone, IsOpen, IsFrame, IsStacked, with_frame, AreFrames, end_of}
use Rattle.xw_search.specs.declared.frame.Frame.{Frame}

-- ---- a frame on top

pub end_of-last : (now : List (Option ℕ)) (frames : List Frame) (frame : Frame) → end_of now (frames ++ frame ∷ []) ≡ with_frame (end_of now frames) frame
end_of-last now [] frame = refl
end_of-last now (first ∷ frames) frame = end_of-last (with_frame now first) frames frame

pub AreFrames-more : (named : ℕ → Bool) (start : Position) (now : List (Option ℕ)) (frames : List Frame) (frame : Frame) → AreFrames named start now frames → IsStacked named start (end_of now frames) frame → AreFrames named start now (frames ++ frame ∷ [])
AreFrames-more named start now [] frame are is = (is, tt)
AreFrames-more named start now (first ∷ frames) frame are is = (are.0, AreFrames-more named start (with_frame now first) frames frame are.1 is)

pub AreFrames-last : (named : ℕ → Bool) (start : Position) (now : List (Option ℕ)) (frames : List Frame) (frame : Frame) → AreFrames named start now (frames ++ frame ∷ []) → AreFrames named start now frames × IsStacked named start (end_of now frames) frame
AreFrames-last named start now [] frame are = (tt, are.0)
AreFrames-last named start now (first ∷ frames) frame are =
    let rest = AreFrames-last named start (with_frame now first) frames frame are.1 in
    ((are.0, rest.0), rest.1)

-- ---- some frames on top

pub end_of-append : (now : List (Option ℕ)) (frames more : List Frame) → end_of now (frames ++ more) ≡ end_of (end_of now frames) more
end_of-append now [] more = refl
end_of-append now (first ∷ frames) more = end_of-append (with_frame now first) frames more

pub AreFrames-append : (named : ℕ → Bool) (start : Position) (now : List (Option ℕ)) (frames more : List Frame) → AreFrames named start now (frames ++ more) → AreFrames named start now frames × AreFrames named start (end_of now frames) more
AreFrames-append named start now [] more are = (tt, are)
AreFrames-append named start now (first ∷ frames) more are =
    let rest = AreFrames-append named start (with_frame now first) frames more are.1 in
    ((are.0, rest.0), rest.1)

-- ---- a cell to fill

pub frame_begun : (named : ℕ → Bool) (start : Position) (now : List (Option ℕ)) (cell : ℕ) → IsOpen named start now → is_target named start cell ≡ true → entry_in now cell ≡ None → ((letter : ℕ) → has 0 letter ≡ false) → IsFrame named start now cell 0
frame_begun named start now cell is_open target empty none = record {
  is_open = is_open;
  target = target;
  empty = empty;
  refuted = λ letter has_it. absurd (true≢false (sym has_it ∙ none letter));
}

-- one more letter was refuted
pub frame_tried : (named : ℕ → Bool) (start : Position) (now : List (Option ℕ)) (cell tried letter more : ℕ) → IsFrame named start now cell tried → HasNone named start (set now cell (Some letter)) → ((other : ℕ) → has more other ≡ (has tried other || (other == letter))) → IsFrame named start now cell more
frame_tried named start now cell tried letter more frame none is = record {
  is_open = frame.is_open;
  target = frame.target;
  empty = frame.empty;
  refuted = λ other has_it. split other (cases_Bool (has tried other)) (sym (is other) ∙ has_it);
} where
  split : (other : ℕ) → (has tried other ≡ true) ⊎ (has tried other ≡ false) → (has tried other || (other == letter)) ≡ true → HasNone named start (set now cell (Some other))
  split other (inl before) h = frame.refuted other before
  split other (inr not_before) h =
      let is_letter : other ≡ letter = eqb-true other letter (sym (ap (λ b. b || (other == letter)) not_before) ∙ h) in
      subst (λ x. HasNone named start (set now cell (Some x))) (sym is_letter) none
