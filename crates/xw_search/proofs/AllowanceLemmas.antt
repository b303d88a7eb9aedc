-- The placements of a search.
use Rattle.std.proofs.Common.{◌≡◌, ◌+◌, ◌<◌, ◌≤◌, List, [], ◌∷◌, length, refl, sym, ◌∙◌, ap, arith}
use Rattle.xw_feas.specs.State.{State}
use Rattle.xw_search.specs.Position.{position_of, holding, DiffersInEntries}
use Rattle.xw_search.specs.Allowance.{IsCounted}
use Rattle.xw_search.specs.Progress.{entries_of, end_of}
use Rattle.xw_search.specs.declared.allowance.Allowance.{Allowance}
use Rattle.xw_search.specs.declared.frame.Frame.{Frame}
use Rattle.xw_search.proofs.LetterSearch.{position_at}
use Rattle.xw_search.proofs.StateLemmas.{same_state}

-- a search that did nothing
pub counted-none : (allowance : Allowance) (state : State) → IsCounted allowance allowance state state
counted-none allowance state = record { made = omega arith; limit = refl; idle = λ none. refl }

-- one search after another
pub counted-then : (from through to : Allowance) (before between after : State) → IsCounted from through before between → IsCounted through to between after → IsCounted from to before after
counted-then from through to before between after first next = record {
  made = omega (arith, first.made, next.made);
  limit = next.limit ∙ first.limit;
  idle = λ none. next.idle (omega (arith, first.made, next.made, none)) ∙ first.idle (omega (arith, first.made, next.made, none));
}

-- a search that left the state as it was
pub counted_same : (from to : Allowance) (before after : State) → from.made ≤ to.made → to.limit ≡ from.limit → after ≡ before → IsCounted from to before after
counted_same from to before after made limit same = record { made = made; limit = limit; idle = λ none. same }

-- a search that made a placement
pub counted_some : (from to : Allowance) (before after : State) → from.made < to.made → to.limit ≡ from.limit → IsCounted from to before after
counted_some from to before after made limit = record { made = omega (arith, made); limit = limit; idle = λ none. absurd (omega (arith, made, none)) }

-- a search that began with another share of the same placements
pub counted_granted : (from granted to : Allowance) (before after : State) → granted.made ≡ from.made → granted.limit ≡ from.limit → IsCounted granted to before after → IsCounted from to before after
counted_granted from granted to before after made limit is = record {
  made = omega (arith, made, is.made);
  limit = is.limit ∙ limit;
  idle = λ none. is.idle (none ∙ sym made);
}

-- entries in which no letter stands but those of the start
letterless : (start now : State) (frames : List Frame) → DiffersInEntries start now → entries_of now ≡ end_of (entries_of start) frames → length frames ≡ 0 → now ≡ start
letterless start now [] differs same none = same_state start now differs (position_at start now differs ∙ ap (holding (position_of start)) same)
letterless start now (frame ∷ frames) differs same none = absurd (omega (arith, none))

-- a search of which no more letters stand than it placed
pub counted_letters : (from to : Allowance) (start now : State) (frames : List Frame) → DiffersInEntries start now → entries_of now ≡ end_of (entries_of start) frames → from.made + length frames ≤ to.made → to.limit ≡ from.limit → IsCounted from to start now
counted_letters from to start now frames differs same stand limit = record {
  made = omega (arith, stand);
  limit = limit;
  idle = λ none. letterless start now frames differs same (omega (arith, stand, none));
}
