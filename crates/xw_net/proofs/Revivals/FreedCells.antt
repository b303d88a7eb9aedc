-- Letters that come back at the cells of removed lights.
use Rattle.std.proofs.Common.{◌≡◌, ℕ, ◌+◌, List, refl, sym, ◌∙◌, subst, inl, inr, arith}
use Rattle.std.specs.Prelude.{◌⊎◌}
use Rattle.std.proofs.lemmas.Option.{slice_get_within}
use Rattle.std.proofs.lemmas.Bool.{cases_eq}
use Rattle.xw_grid.specs.declared.lights.Light.{Light}
use Rattle.xw_grid.specs.Grid.{Grid}
use Rattle.xw_feas.specs.Board.{Board}
use Rattle.xw_net.specs.Worklist.{ListOfLights, HasSeeds}
use Rattle.xw_net.proofs.Lists.ListsOfLights.{grows_none, grows_more}
use Rattle.xw_net.specs.Gone.{IsAlong, IsAmong, IsGone, IsFreed, IsFreedAt, Raises}
use Rattle.xw_net.proofs.Edits.SameLights.{none_new}

module _ (board : Board) where
  pub raises_none : (freed : ℕ → Type 0) (letters : List ℕ) (chain : ListOfLights) → HasSeeds chain → ((cell : ℕ) → freed cell → ⊥) → Raises board freed letters chain letters chain
  raises_none freed letters chain seeds none = record {
    letters_len = refl;
    grows = grows_none chain;
    seeds = seeds;
    all = λ cell is. absurd (none cell is);
    stay = λ cell letter may stood. stood;
    spread = λ start h. h;
    within = λ member start reached. start;
  }

  pub raises_more : (first second both : ℕ → Type 0) (letters letters' letters'' : List ℕ) (chain chain' chain'' : ListOfLights)
      → ((cell : ℕ) → first cell → both cell) → ((cell : ℕ) → second cell → both cell) → ((cell : ℕ) → both cell → first cell ⊎ second cell)
      → Raises board first letters chain letters' chain' → Raises board second letters' chain' letters'' chain'' → Raises board both letters chain letters'' chain''
  raises_more first second both letters letters' letters'' chain chain' chain'' early late split a b = record {
    letters_len = b.letters_len ∙ a.letters_len;
    grows = grows_more chain chain' chain'' a.grows b.grows;
    seeds = b.seeds;
    all = λ cell is. elim (split cell is) [
      | inl before ↦ λ letter may. b.stay cell letter may (a.all cell before letter may)
      | inr now ↦ b.all cell now
    ];
    stay = λ cell letter may stood. b.stay cell letter may (a.stay cell letter may stood);
    spread = λ start h. b.spread start (a.spread start h);
    within = λ member start reached.
        b.within member (a.within member start (λ light is. reached light (is.0, early is.0 is.1, is.2, is.3)))
        (λ light is. reached light (is.0, late is.0 is.1, (λ all. is.2 (λ letter may. a.stay is.0 letter may (all letter may))), is.3));
  }

  pub raises_as : (some other : ℕ → Type 0) (letters letters' : List ℕ) (chain chain' : ListOfLights)
      → ((cell : ℕ) → some cell → other cell) → ((cell : ℕ) → other cell → some cell)
      → Raises board some letters chain letters' chain' → Raises board other letters chain letters' chain'
  raises_as some other letters letters' chain chain' to from a = record {
    letters_len = a.letters_len;
    grows = a.grows;
    seeds = a.seeds;
    all = λ cell is. a.all cell (from cell is);
    stay = a.stay;
    spread = a.spread;
    within = λ member start reached. a.within member start (λ light is. reached light (is.0, to is.0 is.1, is.2, is.3));
  }

-- ---- one more position or light

pub among_more : (grid : Grid) (light : Light) (count cell : ℕ) → IsAmong grid light count cell → IsAmong grid light (count + 1) cell
among_more grid light count cell is = record { position = is.position; below = omega (arith, is.below); along = is.along }

pub among_last : (grid : Grid) (light : Light) (count cell : ℕ) → IsAlong grid light count cell → IsAmong grid light (count + 1) cell
among_last grid light count cell is = record { position = count; below = omega arith; along = is }

pub among_split : (grid : Grid) (light : Light) (count cell : ℕ) → IsAmong grid light (count + 1) cell → IsAmong grid light count cell ⊎ IsAlong grid light count cell
among_split grid light count cell is = elim (cases_eq is.position count) [
  | inl e ↦ inr (subst (λ p. IsAlong grid light p cell) e is.along)
  | inr apart ↦ inl (record { position = is.position; below = omega (arith, is.below, apart); along = is.along })
]

pub freed_more : (grid : Grid) (before after : List Light) (count cell : ℕ) → IsFreed grid before after count cell → IsFreed grid before after (count + 1) cell
freed_more grid before after count cell is = record { other = is.other; below = omega (arith, is.below); light = is.light; gone = is.gone; among = is.among }

pub freed_last : (grid : Grid) (before after : List Light) (count cell : ℕ) → IsFreedAt grid before after count cell → IsFreed grid before after (count + 1) cell
freed_last grid before after count cell is = record { other = count; below = omega arith; light = is.light; gone = is.gone; among = is.among }

pub freed_split : (grid : Grid) (before after : List Light) (count cell : ℕ) → IsFreed grid before after (count + 1) cell → IsFreed grid before after count cell ⊎ IsFreedAt grid before after count cell
freed_split grid before after count cell is = elim (cases_eq is.other count) [
  | inl e ↦ inr (record { light = is.light; gone = subst (λ o. IsGone before after o is.light) e is.gone; among = is.among })
  | inr apart ↦ inl (record { other = is.other; below = omega (arith, is.below, apart); light = is.light; gone = is.gone; among = is.among })
]

-- if the lights stay, none was removed
pub none_freed : (grid : Grid) (before after : List Light) (count cell : ℕ) → after ≡ before → IsFreed grid before after count cell → ⊥
none_freed grid before after count cell same is = none_new after before (sym same) is.other (slice_get_within before is.other is.light is.gone.at) is.gone.none
