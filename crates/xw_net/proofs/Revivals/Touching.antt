-- What the first step of an update leaves of letters, the queue and the chain.
use Rattle.std.proofs.Common.{◌≡◌, ℕ, false, List, [], length, refl, ◌∙◌, subst, arith}
use Rattle.std.specs.Prelude.{Contains}
use Rattle.std.proofs.lemmas.Bool.{both_ways}
use Rattle.xw_grid.specs.declared.lights.Light.{Light}
use Rattle.xw_grid.specs.Grid.{Grid}
use Rattle.xw_feas.specs.Board.{Board}
use Rattle.xw_feas.specs.Flags.{set_has}
use Rattle.xw_net.specs.Begin.{IsNewLight, EditsCells}
use Rattle.xw_net.specs.Change.{Fields}
use Rattle.xw_net.specs.Gone.{IsFreed, Raises}
use Rattle.xw_net.specs.Opened.{HasTurnedWords, IsRegained, Touches}
use Rattle.xw_net.specs.Opened.IsTouched.{by_light, by_cell, by_grade}
use Rattle.xw_net.specs.Opened.MayGain.{if_touched, if_freed}
use Rattle.xw_net.specs.Worklist.{ListOfLights, is_marked, is_waiting, HasSeeds, Adds}
use Rattle.xw_net.proofs.Lists.ListsOfLights.{seeds_grow, grows_more, adds_none}
use Rattle.xw_net.proofs.Edits.SameLights.{none_new}
use Rattle.xw_net.proofs.Revivals.FreedCells.{raises_none, none_freed}
use Rattle.xw_net.proofs.Revivals.LettersComeBack.{spread_start}

module _ (grid : Grid) (board : Board) (lights : List Light) (change : Fields) (letters letters-1 letters-2 : List ℕ) (queue queue-1 queue-2 chain chain-1 chain-2 chain-3 : ListOfLights) (seeds : HasSeeds chain)
    (none : (len : ℕ) → change.turned len ≡ false) where
  -- new lights are marked, then the cells of removed lights get their letters, then edited cells
  pub touches_all : Adds (IsNewLight change.before lights) queue queue-1 → Adds (IsNewLight change.before lights) chain chain-1
      → Raises board (IsFreed grid change.before lights (length change.before)) letters chain-1 letters-1 chain-2
      → EditsCells grid board change.cells letters-1 queue-1 chain-2 letters-2 queue-2 chain-3 → Touches grid board lights change letters queue chain letters-2 queue-2 chain-3
  touches_all n n' r e =
      let marked = seeds_grow chain chain-1 n'.grows seeds in
      let raised = r.spread (set_has letters) (spread_start board (set_has letters) (is_marked chain-1.marks) (is_waiting chain-1.lights) marked) in
      let again = spread_start board (set_has letters-1) (is_marked chain-2.marks) (is_waiting chain-2.lights) r.seeds in
      record {
        letters_len = e.letters_len ∙ r.letters_len;
        queue_grows = grows_more queue queue-1 queue-2 n.grows e.queue_grows;
        chain_grows = grows_more chain chain-2 chain-3 (grows_more chain chain-1 chain-2 n'.grows r.grows) e.chain_grows;
        new_queued = λ light is. e.queue_grows.more light (n.all light is);
        new_marked = λ light is. e.chain_grows.more light (r.grows.more light (n'.all light is));
        turned_queued = λ light is. absurd (both_ways _ (none _) is.1);
        turned_marked = λ light is. absurd (both_ways _ (none _) is.1.1);
        edited = e.edited;
        spread = e.spread (set_has letters) raised;
        freed = λ cell is letter may. (e.spread (set_has letters-1) again).stay cell letter may (r.all cell is letter may);
        queued_within = λ member start these. e.queued_within member (n.only member start (λ light is. these light (by_light is))) (λ light is. these light (by_cell is));
        within = λ member start these.
            e.within member (r.within member (n'.only member start (λ light is. these light (if_touched (by_light is)))) (λ light is. these light (if_freed is))) (λ light is. these light (if_touched (by_cell is)));
      }

module _ (grid : Grid) (board : Board) (lights : List Light) (change : Fields) (same : lights ≡ change.before) (letters letters' : List ℕ) (queue queue' chain chain' : ListOfLights) (seeds : HasSeeds chain)
    (none : (len : ℕ) → change.turned len ≡ false) where
  -- the lights stayed, so only edited cells get letters
  pub touches_cells : EditsCells grid board change.cells letters queue chain letters' queue' chain' → Touches grid board lights change letters queue chain letters' queue' chain'
  touches_cells e =
      touches_all grid board lights change letters letters letters' queue queue queue' chain chain chain chain' seeds none
      (adds_none (IsNewLight change.before lights) queue (λ light is. none_new change.before lights same light is.0 is.1))
      (adds_none (IsNewLight change.before lights) chain (λ light is. none_new change.before lights same light is.0 is.1))
      (raises_none board (IsFreed grid change.before lights (length change.before)) letters chain seeds (λ cell. none_freed grid change.before lights (length change.before) cell same))
      e

module _ (grid : Grid) (board : Board) (lights : List Light) (change : Fields) (same : lights ≡ change.before) (letters : List ℕ) (queue queue' chain chain' : ListOfLights) (seeds : HasSeeds chain) where
  -- the lights and the entries stayed, and the lights with other active words are queued, and marked if words may have come back
  pub touches_turned : change.cells ≡ [] → Adds (HasTurnedWords board change.turned) queue queue' → Adds (IsRegained board change) chain chain' → Touches grid board lights change letters queue chain letters queue' chain'
  touches_turned cells n n' = record {
    letters_len = refl;
    queue_grows = n.grows;
    chain_grows = n'.grows;
    new_queued = λ light is. absurd (none_new change.before lights same light is.0 is.1);
    new_marked = λ light is. absurd (none_new change.before lights same light is.0 is.1);
    turned_queued = n.all;
    turned_marked = n'.all;
    edited = λ listed has. let never = subst (λ cs. Contains cs listed) cells has in absurd (omega (arith, never.1));
    spread = spread_start board (set_has letters) (is_marked chain'.marks) (is_waiting chain'.lights) (seeds_grow chain chain' n'.grows seeds);
    freed = λ cell is. absurd (none_freed grid change.before lights (length change.before) cell same is);
    queued_within = λ member start these. n.only member start (λ light is. these light (by_grade is));
    within = λ member start these. n'.only member start (λ light is. these light (if_touched (by_grade is.1)));
  }
