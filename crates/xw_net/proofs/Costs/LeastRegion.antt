-- There is a least region: the lights that are in every closed set of lights. So a bound by the
-- cost of every closed set is a bound by the cost of the region.
use Rattle.std.proofs.Common.{◌≡◌, ℕ, ◌≤◌, Bool, true, false, cond, not, ◌&&◌, ◌||◌, eqb, List, ◌++◌, length, Some, None, refl, sym, ◌∙◌, ap, subst, arith, inl, inr}
use Rattle.std.proofs.lemmas.List.Elements.{Contains-append_cases, Contains-append_left, Contains-append_right, All-contains, filter_passes}
use Rattle.std.specs.Prelude.{filter, ◌↔◌, Option, Contains, IsTrue, bytes_eq}
use Rattle.std.specs.List.{list_any, list_all}
use Rattle.std.proofs.lemmas.Bool.{and_parts, and_from, or_cases, or_left, or_right, cases_Bool, false≢true, both_ways, eqb-true, eq-eqb, not-true, not_from_false}
use Rattle.xw_feas.specs.Board.{board_of, entry, light_at}
use Rattle.xw_feas.specs.Feasible.{IsFeasibleLetter}
use Rattle.xw_feas.specs.State.{State, Action}
use Rattle.xw_feas.proofs.GreatestLemmas.{greatest_exists}
use Rattle.xw_feas.proofs.Elements.{all_from, all_gives, any_from, any_gives, parts_of, part_picked, contains_filtered}
use Rattle.xw_net.specs.Region.{edited_cells, changes_words, IsSettled, StandsIn, StandsInEither, IsRegion, cost, light_cost, IsWithinCost}
use Rattle.xw_net.specs.RegionLaws.{IsLeastRegion, LeastRegionExists, LeastRegionBounds}
use Rattle.xw_net.specs.Sums.{sum_below}
use Rattle.xw_net.proofs.Costs.CostsByLight.{sum_below-le, cost-indices}
use Rattle.std.proofs.lemmas.Slice.Eq.{bytes_eq-Decides}

-- ---- the least closed set of some lights

abbrev among : List (List ℕ) → List ℕ → Bool
among part light = list_any (bytes_eq light) part

among_from : (part : List (List ℕ)) (light : List ℕ) → Contains part light → among part light ≡ true
among_from part light there = any_from (bytes_eq light) part light there ((bytes_eq-Decides light light).1 refl)

among_gives : (part : List (List ℕ)) (light : List ℕ) → among part light ≡ true → Contains part light
among_gives part light h =
    let found = any_gives (bytes_eq light) part h in
    subst (Contains part) (sym ((bytes_eq-Decides light found.0).0 found.2)) found.1

-- implication of tests
abbrev if_then : Bool → Bool → Bool
if_then first second = not first || second

if_then-from : (first second : Bool) → (first ≡ true → second ≡ true) → if_then first second ≡ true
if_then-from true second follows = follows refl
if_then-from false second follows = refl

if_then-gives : (first second : Bool) → if_then first second ≡ true → first ≡ true → second ≡ true
if_then-gives true second h first = h
if_then-gives false second h first = absurd (false≢true first)

module _ (all : List (List ℕ)) (seed : List ℕ → Bool) (link : List ℕ → List ℕ → Bool) where
  abbrev has_seeds : List (List ℕ) → Bool
  has_seeds part = list_all (λ light. if_then (seed light) (among part light)) all

  abbrev has_links : List (List ℕ) → Bool
  has_links part = list_all (λ light. list_all (λ other. if_then (among part light && link light other) (among part other)) all) all

  abbrev least : List ℕ → Bool
  least light = list_all (λ part. if_then (has_seeds part && has_links part) (among part light)) (parts_of all)

  least-from : (light : List ℕ) → ((part : List (List ℕ)) → has_seeds part ≡ true → has_links part ≡ true → among part light ≡ true) → least light ≡ true
  least-from light each = all_from (λ part. if_then (has_seeds part && has_links part) (among part light)) (parts_of all) (λ part _.
      if_then-from (has_seeds part && has_links part) (among part light) (λ h. let both = and_parts (has_seeds part) (has_links part) h in each part both.0 both.1))

  least_has_seeds : (light : List ℕ) → Contains all light → seed light ≡ true → least light ≡ true
  least_has_seeds light there seeded = least-from light (λ part seeds links.
      if_then-gives (seed light) (among part light) (all_gives (λ l. if_then (seed l) (among part l)) all seeds light there) seeded)

  least_has_links : (light other : List ℕ) → Contains all light → Contains all other → least light ≡ true → link light other ≡ true → least other ≡ true
  least_has_links light other there there' has linked = all_from (λ part. if_then (has_seeds part && has_links part) (among part other)) (parts_of all) (λ part is_part.
      if_then-from (has_seeds part && has_links part) (among part other) (λ closed.
      let links = (and_parts (has_seeds part) (has_links part) closed).1 in
      let here : among part light ≡ true = if_then-gives (has_seeds part && has_links part) (among part light) (all_gives (λ p. if_then (has_seeds p && has_links p) (among p light)) (parts_of all) has part is_part) closed in
      if_then-gives (among part light && link light other) (among part other)
      (all_gives (λ o. if_then (among part light && link light o) (among part o)) all
      (all_gives (λ l. list_all (λ o. if_then (among part l && link l o) (among part o)) all) all links light there) other there')
      (and_from _ _ here linked)))

  -- the least set is in each closed set
  least_is_least : (member : List ℕ → Bool) → ((light : List ℕ) → Contains all light → seed light ≡ true → member light ≡ true)
      → ((light other : List ℕ) → Contains all light → Contains all other → member light ≡ true → link light other ≡ true → member other ≡ true)
      → (light : List ℕ) → least light ≡ true → member light ≡ true
  least_is_least member seeds links light has =
      let part = filter member all in
      let closed : (has_seeds part && has_links part) ≡ true = and_from _ _ part_seeds part_links in
      picked light (among_gives part light (if_then-gives (has_seeds part && has_links part) (among part light)
      (all_gives (λ p. if_then (has_seeds p && has_links p) (among p light)) (parts_of all) has part (part_picked member all)) closed)) where
        picked : (l : List ℕ) → Contains (filter member all) l → member l ≡ true
        picked l there = All-contains (λ x. member x ≡ true) (filter member all) l (filter_passes member all) there

        part_seeds : has_seeds (filter member all) ≡ true
        part_seeds = all_from (λ l. if_then (seed l) (among (filter member all) l)) all (λ l there.
            if_then-from (seed l) (among (filter member all) l) (λ seeded. among_from (filter member all) l (contains_filtered member all l there (seeds l there seeded))))

        part_links : has_links (filter member all) ≡ true
        part_links = all_from (λ l. list_all (λ o. if_then (among (filter member all) l && link l o) (among (filter member all) o)) all) all (λ l there.
            all_from (λ o. if_then (among (filter member all) l && link l o) (among (filter member all) o)) all (λ o there'.
            if_then-from (among (filter member all) l && link l o) (among (filter member all) o) (λ h.
            let both = and_parts (among (filter member all) l) (link l o) h in
            among_from (filter member all) o (contains_filtered member all o there' (links l o there there' (picked l (among_gives (filter member all) l both.0)) both.1)))))

-- ---- the least region of an edit

-- with a test for the feasible letters before and after, a test can decide which cells are settled
abbrev settled_by : (ℕ → Bool) → (ℕ → Bool) → Option ℕ → Option ℕ → Bool
settled_by first second None entry = false
settled_by first second (Some letter) None = false
settled_by first second (Some letter) (Some other) = eqb letter other && (first letter && second letter)

-- the test holds for exactly the feasible letters
abbrev DecidesLetters : State → (ℕ → ℕ → Bool) → Type 0
DecidesLetters state letters = (cell letter : ℕ) → IsTrue (letters cell letter) ↔ IsFeasibleLetter (board_of state.grid) state.words cell letter

module _ (before now : State) (action : Action) (letters letters' : ℕ → ℕ → Bool) (exact : DecidesLetters before letters) (exact' : DecidesLetters now letters') where
  abbrev settled : ℕ → Bool
  settled cell = settled_by (letters cell) (letters' cell) (entry (board_of before.grid) cell) (entry (board_of now.grid) cell)

  settled-gives : (cell : ℕ) → settled cell ≡ true → IsSettled before now cell
  settled-gives cell h = split (entry (board_of before.grid) cell) (entry (board_of now.grid) cell) refl refl h where
    split : (first second : Option ℕ) → entry (board_of before.grid) cell ≡ first → entry (board_of now.grid) cell ≡ second → settled_by (letters cell) (letters' cell) first second ≡ true → IsSettled before now cell
    split None second at at' g = absurd (false≢true g)
    split (Some letter) None at at' g = absurd (false≢true g)
    split (Some letter) (Some other) at at' g =
        let parts = and_parts (eqb letter other) (letters cell letter && letters' cell letter) g in
        let marks = and_parts (letters cell letter) (letters' cell letter) parts.1 in
        (letter, at, at' ∙ ap Some (sym (eqb-true letter other parts.0)), (exact cell letter).0 marks.0, (exact' cell letter).0 marks.1)

  settled-from : (cell : ℕ) → IsSettled before now cell → settled cell ≡ true
  settled-from cell (letter, at, at', feasible, feasible') =
      ap (settled_by (letters cell) (letters' cell) (entry (board_of before.grid) cell)) at'
      ∙ ap (λ e. settled_by (letters cell) (letters' cell) e (Some letter)) at
      ∙ and_from _ _ (eq-eqb letter letter refl) (and_from _ _ ((exact cell letter).1 feasible) ((exact' cell letter).1 feasible'))

  abbrev lights_before : List (List ℕ)
  lights_before = (board_of before.grid).lights

  abbrev lights_now : List (List ℕ)
  lights_now = (board_of now.grid).lights

  abbrev seed : List ℕ → Bool
  seed light =
      list_any (λ cell. list_any (λ other. eqb cell other) (edited_cells before.grid action)) light
      || (not (among lights_before light && among lights_now light)
      || changes_words before.words action (length light))

  abbrev link : List ℕ → List ℕ → Bool
  link light other = list_any (λ cell. not (settled cell) && list_any (λ there. eqb cell there) other) light

  abbrev all_lights : List (List ℕ)
  all_lights = lights_before ++ lights_now

  stands : (light : List ℕ) → StandsInEither before now light → Contains all_lights light
  stands light (inl first) = Contains-append_left lights_before lights_now light first
  stands light (inr second) = Contains-append_right lights_before lights_now light second

  stands_back : (light : List ℕ) → Contains all_lights light → StandsInEither before now light
  stands_back light there = Contains-append_cases lights_before lights_now light there

  holds_from : (cells : List ℕ) (cell : ℕ) → Contains cells cell → list_any (λ other. eqb cell other) cells ≡ true
  holds_from cells cell there = any_from (λ other. eqb cell other) cells cell there (eq-eqb cell cell refl)

  holds_gives : (cells : List ℕ) (cell : ℕ) → list_any (λ other. eqb cell other) cells ≡ true → Contains cells cell
  holds_gives cells cell h =
      let found = any_gives (λ other. eqb cell other) cells h in
      subst (Contains cells) (sym (eqb-true cell found.0 found.2)) found.1

  pub region : List ℕ → Bool
  region light = least all_lights seed link light

  seed_in : (light : List ℕ) → StandsInEither before now light → seed light ≡ true → region light ≡ true
  unfolding region
  seed_in light there h = least_has_seeds all_lights seed link light (stands light there) h

  link_in : (light other : List ℕ) → StandsInEither before now light → StandsInEither before now other → region light ≡ true → link light other ≡ true → region other ≡ true
  unfolding region
  link_in light other there there' has linked = least_has_links all_lights seed link light other (stands light there) (stands other there') has linked

  one_time : (light : List ℕ) → (StandsIn before light → StandsIn now light → ⊥) → not (among lights_before light && among lights_now light) ≡ true
  one_time light apart = elim (cases_Bool (among lights_before light && among lights_now light)) [
    | inr off ↦ not_from_false _ off
    | inl both ↦
        let parts = and_parts (among lights_before light) (among lights_now light) both in
        absurd (apart (among_gives lights_before light parts.0) (among_gives lights_now light parts.1))
  ]

  -- the region is closed
  pub region_is_region : IsRegion before now action region
  region_is_region = record {
    edited = λ light cell there through in_edit. seed_in light there (or_left _ _ (any_from (λ c. list_any (λ other. eqb c other) (edited_cells before.grid action)) light cell through (holds_from (edited_cells before.grid action) cell in_edit)));
    gone = λ light there never. seed_in light (inl there) (or_right (list_any (λ c. list_any (λ other. eqb c other) (edited_cells before.grid action)) light) _ (or_left _ (changes_words before.words action (length light)) (one_time light (λ first second. never second))));
    come = λ light there never. seed_in light (inr there) (or_right (list_any (λ c. list_any (λ other. eqb c other) (edited_cells before.grid action)) light) _ (or_left _ (changes_words before.words action (length light)) (one_time light (λ first second. never first))));
    long = λ light there is_long. seed_in light there (or_right (list_any (λ c. list_any (λ other. eqb c other) (edited_cells before.grid action)) light) _ (or_right (not (among lights_before light && among lights_now light)) _ is_long));
    spreads = λ light other cell has there there' through through' unsettled. link_in light other there there' has
        (any_from (λ c. not (settled c) && list_any (λ o. eqb c o) other) light cell through (and_from _ _ (by_test cell unsettled) (holds_from other cell through')));
  } where
    by_test : (cell : ℕ) → ¬ IsSettled before now cell → not (settled cell) ≡ true
    by_test cell unsettled = elim (cases_Bool (settled cell)) [
      | inr off ↦ not_from_false _ off
      | inl on ↦ absurd (unsettled (settled-gives cell on))
    ]

  -- each closed set contains the region
  pub region_is_least : (member : List ℕ → Bool) → IsRegion before now action member → (light : List ℕ) → region light ≡ true → member light ≡ true
  unfolding region
  region_is_least member closed light has = least_is_least all_lights seed link member seeds links light has where
    seeds : (l : List ℕ) → Contains all_lights l → seed l ≡ true → member l ≡ true
    seeds l there h = elim (or_cases (list_any (λ cell. list_any (λ other. eqb cell other) (edited_cells before.grid action)) l) (not (among lights_before l && among lights_now l) || changes_words before.words action (length l)) h) [
      | inl through ↦
          let found = any_gives (λ cell. list_any (λ other. eqb cell other) (edited_cells before.grid action)) l through in
          closed.edited l found.0 (stands_back l there) found.1 (holds_gives (edited_cells before.grid action) found.0 found.2)
      | inr rest ↦ elim (or_cases (not (among lights_before l && among lights_now l)) (changes_words before.words action (length l)) rest) [
        | inr is_long ↦ closed.long l (stands_back l there) is_long
        | inl once ↦ elim (stands_back l there) [
          | inl first ↦ closed.gone l first (λ second. both_ways _ (not-true _ once) (and_from _ _ (among_from lights_before l first) (among_from lights_now l second)))
          | inr second ↦ closed.come l second (λ first. both_ways _ (not-true _ once) (and_from _ _ (among_from lights_before l first) (among_from lights_now l second)))
        ]
      ]
    ]

    links : (l o : List ℕ) → Contains all_lights l → Contains all_lights o → member l ≡ true → link l o ≡ true → member o ≡ true
    links l o there there' has_l linked =
        let found = any_gives (λ cell. not (settled cell) && list_any (λ c. eqb cell c) o) l linked in
        let parts = and_parts (not (settled found.0)) (list_any (λ c. eqb found.0 c) o) found.2 in
        closed.spreads l o found.0 has_l (stands_back l there) (stands_back o there') found.1 (holds_gives o found.0 parts.1) (λ is. both_ways _ (not-true _ parts.0) (settled-from found.0 is))

pub least_region_exists : LeastRegionExists
least_region_exists before now action =
    let one = greatest_exists (board_of before.grid) before.words in
    let other = greatest_exists (board_of now.grid) now.words in (
      region before now action one.0.letters other.0.letters one.1.letters other.1.letters,
      record {
        closed = region_is_region before now action one.0.letters other.0.letters one.1.letters other.1.letters;
        least = region_is_least before now action one.0.letters other.0.letters one.1.letters other.1.letters;
      },
    )

-- ---- its cost

module _ (before now : State) (action : Action) (region : List ℕ → Bool) (least : IsLeastRegion before now action region) where
  part_of : (List ℕ → Bool) → ℕ → ℕ
  part_of member light = cond (member (light_at (board_of now.grid) light)) (light_cost now.words (light_at (board_of now.grid) light)) 0

  fewer : (first second : Bool) (n : ℕ) → (first ≡ true → second ≡ true) → cond first n 0 ≤ cond second n 0
  fewer false second n follows = omega arith
  fewer true second n follows = rw (follows refl) (omega arith)

  costs_less : (member : List ℕ → Bool) → IsRegion before now action member → cost now region ≤ cost now member
  unfolding part_of
  costs_less member closed =
      let count = length (board_of now.grid).lights in
      let terms : sum_below (part_of region) count ≤ sum_below (part_of member) count = sum_below-le (part_of region) (part_of member) count (λ light below.
      fewer (region (light_at (board_of now.grid) light)) (member (light_at (board_of now.grid) light)) (light_cost now.words (light_at (board_of now.grid) light)) (least.least member closed (light_at (board_of now.grid) light))) in
      omega (arith, terms, cost-indices now region, cost-indices now member)

  pub least_bounds : (ticks : ℕ) → IsWithinCost before now action ticks ↔ (ticks ≤ cost now region)
  least_bounds ticks = (
    (λ within. within region least.closed),
    (λ few member closed. omega (arith, few, costs_less member closed)),
  )

pub least_region_bounds : LeastRegionBounds
least_region_bounds before now action region least = least_bounds before now action region least
