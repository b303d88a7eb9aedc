use Rattle.std.proofs.Common.{◌≡◌, suc, refl, ◌+◌, ◌≤◌, sym, length, length-append, [], ◌∷◌, ◌++◌, ap, ◌∙◌, subst, arith}
use Rattle.std.specs.Option.{option_to_list}
use Rattle.xw_search.specs.Position.{position_of}
use Rattle.xw_fill.specs.Filling.{IsFilling}
use Rattle.xw_fill.specs.Inner.EnteredSince.{noted, AreEntered, StayNoted}
use Rattle.xw_search.specs.Stack.{first_or}
use Rattle.xw_fill.specs.Inner.Stepping.{HasStepped}
use Rattle.xw_fill.specs.Inner.Tries.{IsMade}
use Rattle.xw_fill.specs.declared.tries.Try.{Try}
use Rattle.xw_search.specs.declared.filling.Filling.TheVariants.{Filled, NoFill}
use Rattle.xw_fill.specs.declared.search.Next.{Next}
use Rattle.xw_fill.specs.declared.search.Next.TheVariants.{Done, Spent, Words}
use Rattle.xw_search.proofs.StackLemmas.{stands_empty}
use Rattle.xw_fill.proofs.Searching.{IsSearching, IsSound-formed, searching-start, searching-returned, searching-spent, searching-open, searching-placed, searching-failed, searching-done, searching-none, filling-fill, searching-popped, searching-empty, searching-alive, searching-count, outcome_filling, last-index, due-more}
use Rattle.xw_search.proofs.StateLemmas.{DiffersInEntries-itself, DiffersInEntries-then}
use Rattle.xw_fill.proofs.Trail.{after_try, AreNotedAlong, noted-last, noted-back, noted-more}
use Rattle.xw_fill.proofs.search.fill_from.Invariants.{steps}
use Rattle.xw_fill.proofs.search.fill_from.Goals as goal

pub returns-in-None-clause-found : goal.returns-in-None-clause-found
returns-in-None-clause-found g c =
    let before = g.E.Feasible.state c.args.engine.now in
    let start = position_of before in
    let now = g.E.Feasible.state c.search.engine in
    let current = position_of now in
    let long : length c.search.stack.placements.items ≡ 0 = ap length c.in-None.ensures.none in
    let searching = searching-empty start current c.search.stack.placements.items c.back.new.self.placements.items c.back.result c.search.used c.search.next c.search.invariant.searching c.in-Spent.is c.back.ensures.placements c.in-None.is long in
    subst (λ engine. IsFilling c.args.limit before (g.E.Feasible.state engine) NoFill) (sym c.in-None.ensures.same) (outcome_filling c.args.limit before now NoFill c.search.invariant.entries (searching-none start current c.search.used c.args.limit searching c.search.invariant.few))

pub returns-in-Done-clause-found : goal.returns-in-Done-clause-found
returns-in-Done-clause-found g c =
    let before = g.E.Feasible.state c.args.engine.now in
    let start = position_of before in
    let now = g.E.Feasible.state c.search.engine in
    let current = position_of now in
    let sound = IsSound-formed before (g.met.E.Feasible.well_formed c.args.engine.now) in
    outcome_filling c.args.limit before now Filled c.search.invariant.entries (searching-done start current c.search.stack.placements.items c.search.used c.args.limit sound (subst (IsSearching start c.search.stack.placements.items c.search.used current) c.in-Done.is c.search.invariant.searching) c.search.invariant.few)

pub returns-in-Done-clause-fill : goal.returns-in-Done-clause-fill
returns-in-Done-clause-fill g c =
    let before = g.E.Feasible.state c.args.engine.now in
    let start = position_of before in
    let now = g.E.Feasible.state c.search.engine in
    let current = position_of now in
    let formed = g.met.E.Feasible.well_formed c.args.engine.now in
    filling-fill c.args.limit before now Filled formed (outcome_filling c.args.limit before now Filled c.search.invariant.entries (searching-done start current c.search.stack.placements.items c.search.used c.args.limit (IsSound-formed before formed) (subst (IsSearching start c.search.stack.placements.items c.search.used current) c.in-Done.is c.search.invariant.searching) c.search.invariant.few))

pub returns-in-None-clause-fill : goal.returns-in-None-clause-fill
returns-in-None-clause-fill g c =
    let before = g.E.Feasible.state c.args.engine.now in
    let start = position_of before in
    let now = g.E.Feasible.state c.search.engine in
    let current = position_of now in
    let formed = g.met.E.Feasible.well_formed c.args.engine.now in
    let long : length c.search.stack.placements.items ≡ 0 = ap length c.in-None.ensures.none in
    let searching = searching-empty start current c.search.stack.placements.items c.back.new.self.placements.items c.back.result c.search.used c.search.next c.search.invariant.searching c.in-Spent.is c.back.ensures.placements c.in-None.is long in
    filling-fill c.args.limit before now NoFill formed (outcome_filling c.args.limit before now NoFill c.search.invariant.entries (searching-none start current c.search.used c.args.limit searching c.search.invariant.few))

pub overflow_add-next : goal.overflow_add-next
overflow_add-next g c =
    let before = g.E.Feasible.state c.args.engine.now in
    let start = position_of before in
    let now = g.E.Feasible.state c.search.engine in
    let current = position_of now in
    let sound = IsSound-formed before (g.met.E.Feasible.well_formed c.args.engine.now) in
    let small = last-index start current c.back.new.self.placements.items c.in-Some.tried c.search.used sound (searching-popped start current c.search.stack.placements.items c.back.new.self.placements.items c.back.result c.in-Some.tried c.search.used c.search.next c.search.invariant.searching c.in-Spent.is c.back.ensures.placements c.in-Some.is) in
    omega arith

pub next_word_index-requires-clause-light : goal.next_word_index-requires-clause-light
next_word_index-requires-clause-light g c =
    let before = g.E.Feasible.state c.args.engine.now in
    let start = position_of before in
    let now = g.E.Feasible.state c.search.engine in
    let current = position_of now in
    let searching = subst (IsSearching start c.search.stack.placements.items c.search.used current) c.in-Words.is c.search.invariant.searching in
    let is = searching-open start current c.search.stack.placements.items c.search.used c.in-Words.light c.in-Words.from searching in
    is.0

pub next_word_index-requires-clause-not_entered : goal.next_word_index-requires-clause-not_entered
next_word_index-requires-clause-not_entered g c =
    let before = g.E.Feasible.state c.args.engine.now in
    let start = position_of before in
    let now = g.E.Feasible.state c.search.engine in
    let current = position_of now in
    let searching = subst (IsSearching start c.search.stack.placements.items c.search.used current) c.in-Words.is c.search.invariant.searching in
    let is = searching-open start current c.search.stack.placements.items c.search.used c.in-Words.light c.in-Words.from searching in
    is.1

pub try_word-requires-clause-alive : goal.try_word-requires-clause-alive
try_word-requires-clause-alive g c =
    let before = g.E.Feasible.state c.args.engine.now in
    let start = position_of before in
    let now = g.E.Feasible.state c.search.engine in
    let current = position_of now in
    let searching = subst (IsSearching start c.search.stack.placements.items c.search.used current) c.in-Words.is c.search.invariant.searching in
    let is = searching-open start current c.search.stack.placements.items c.search.used c.in-Words.light c.in-Words.from searching in
    searching-alive start current c.search.stack.placements.items c.search.used c.in-Words.light c.in-Words.from searching

pub search-preserved-in-None-next_word_index : goal.search-preserved-in-None-next_word_index
search-preserved-in-None-next_word_index g c =
    let before = g.E.Feasible.state c.args.engine.now in
    let start = position_of before in
    let now = g.E.Feasible.state c.search.engine in
    let current = position_of now in
    let searching = subst (IsSearching start c.search.stack.placements.items c.search.used current) c.in-Words.is c.search.invariant.searching in
    let is = searching-open start current c.search.stack.placements.items c.search.used c.in-Words.light c.in-Words.from searching in
    let sound = IsSound-formed before (g.met.E.Feasible.well_formed c.args.engine.now) in
    record {
      entries = c.search.invariant.entries;
      began = c.search.invariant.began;
      stands = c.search.invariant.stands;
      long = c.search.invariant.long;
      noted = c.search.invariant.noted;
      searching = searching-spent start current c.search.stack.placements.items c.search.used c.in-Words.light c.in-Words.from sound searching c.in-None-next_word_index.ensures;
      few = c.search.invariant.few;
      count = c.search.invariant.count;
    }

pub search-init : goal.search-init
search-init g c =
    let before = g.E.Feasible.state c.args.engine.now in
    record {
      searching = rw (c.requires.empty, c.requires.first) (searching-start (position_of before));
      entries = DiffersInEntries-itself before;
      began = ap (λ levels. first_or levels before) c.requires.levels;
      stands = stands_empty IsMade c.args.stack.now.placements.items (g.E.Searchable.levels c.args.engine.now) before c.requires.empty c.requires.levels;
      few = omega arith;
      count = omega arith;
      noted = rw c.requires.empty c.requires.entered;
      long = c.requires.long;
    }

pub back-requires : goal.back-requires
back-requires g c = record { stands = c.search.invariant.stands }

pub search-preserved-in-Some : goal.search-preserved-in-Some
search-preserved-in-Some g c =
    let before = g.E.Feasible.state c.args.engine.now in
    let start = position_of before in
    let now = g.E.Feasible.state c.search.engine in
    let current = position_of now in
    let after = g.E.Feasible.state c.back.new.engine in
    let left = c.back.new.self.placements.items in
    let tried = c.in-Some.tried in
    let popped = searching-popped start current c.search.stack.placements.items left c.back.result tried c.search.used c.search.next c.search.invariant.searching c.in-Spent.is c.back.ensures.placements c.in-Some.is in
    let items : c.search.stack.placements.items ≡ left ++ tried ∷ [] = c.back.ensures.placements ∙ ap (λ o. left ++ option_to_list o) c.in-Some.is in
    let began = c.back.ensures.start ∙ c.search.invariant.began in
    record {
      searching = searching-returned start current left tried c.search.used before after (g.E.Searchable.levels c.back.new.engine) popped c.back.ensures.stands began refl;
      entries = DiffersInEntries-then before now after c.search.invariant.entries c.back.ensures.entries;
      began = began;
      stands = c.back.ensures.stands;
      few = c.search.invariant.few;
      count = c.back.ensures.count ∙ c.search.invariant.count;
      long = c.search.invariant.long;
      noted = noted-back left start tried c.search.since 0 (subst (λ tries. AreNotedAlong start tries c.search.since 0) items c.search.invariant.noted);
    }

pub reset-requires : goal.reset-requires
reset-requires g c = record { stands = c.search.invariant.stands }

pub returns-then-used-limit-clause-found : goal.returns-then-used-limit-clause-found
returns-then-used-limit-clause-found g c =
    let before = g.E.Feasible.state c.args.engine.now in
    let start = position_of before in
    let current = position_of (g.E.Feasible.state c.search.engine) in
    let searching = subst (IsSearching start c.search.stack.placements.items c.search.used current) c.in-Words.is c.search.invariant.searching in
    let sound = IsSound-formed before (g.met.E.Feasible.well_formed c.args.engine.now) in
    let more = due-more start current c.search.stack.placements.items c.search.used c.in-Words.light c.in-Words.from c.in-Some-next_word_index.index sound searching c.in-Some-next_word_index.ensures in
    (rw (← c.if-used-limit.true) more, c.reset.ensures.back ∙ c.search.invariant.began)

pub try_word-requires-clause-may : goal.try_word-requires-clause-may
try_word-requires-clause-may g c =
    let start = position_of (g.E.Feasible.state c.args.engine.now) in
    let current = position_of (g.E.Feasible.state c.search.engine) in
    let searching = subst (IsSearching start c.search.stack.placements.items c.search.used current) c.in-Words.is c.search.invariant.searching in
    let is = searching-open start current c.search.stack.placements.items c.search.used c.in-Words.light c.in-Words.from searching in
    record { light_in = is.0; not_entered = is.1; index_in = c.in-Some-next_word_index.ensures.within; feasible = c.in-Some-next_word_index.ensures.feasible }

pub try_word-requires-clause-long : goal.try_word-requires-clause-long
try_word-requires-clause-long g c =
    let start = position_of (g.E.Feasible.state c.args.engine.now) in
    let current = position_of (g.E.Feasible.state c.search.engine) in
    c.search.invariant.long ∙ sym (searching-count start current c.search.stack.placements.items c.search.used c.search.next c.search.invariant.searching)

pub try_word-requires-clause-entered : goal.try_word-requires-clause-entered
try_word-requires-clause-entered g c =
    let start = position_of (g.E.Feasible.state c.args.engine.now) in
    let current = position_of (g.E.Feasible.state c.search.engine) in
    let tries = c.search.stack.placements.items in
    let last = noted-last tries _ start _ _ current c.search.since 0 c.search.invariant.searching.trail c.search.invariant.noted in
    let same : length tries + 0 ≡ length tries = omega arith in
    subst (λ n. AreEntered current (noted c.search.since (suc n))) same last

pub search-preserved-in-Some-led : goal.search-preserved-in-Some-led
search-preserved-in-Some-led g c =
    let before = g.E.Feasible.state c.args.engine.now in
    let start = position_of before in
    let now = g.E.Feasible.state c.search.engine in
    let current = position_of now in
    let after = g.E.Feasible.state c.try_word.new.engine in
    let tries = c.search.stack.placements.items in
    let tried : Try = record { light = c.in-Words.light; index = c.in-Some-next_word_index.index } in
    let searching = subst (IsSearching start tries c.search.used current) c.in-Words.is c.search.invariant.searching in
    let sound = IsSound-formed before (g.met.E.Feasible.well_formed c.args.engine.now) in
    let placed_now = searching-placed start current tries c.search.used c.in-Words.light c.in-Words.from c.in-Some-next_word_index.index tried sound searching c.in-Some-next_word_index.ensures refl refl in
    let placed = subst (HasStepped tried now tries c.search.since after c.try_word.new.stack.placements.items c.try_word.new.since) c.in-Some-led.is c.in-Ok.ensures.led in
    let there : position_of after ≡ after_try current tried = placed.made.placed in
    let items = placed.pushed in
    let count : length tries ≡ length tries + 0 = omega arith in
    let stay = subst (λ n. StayNoted (suc n) c.search.since c.try_word.new.since) count c.try_word.ensures.stay in
    let last = subst (λ n. AreEntered (after_try current tried) (noted c.try_word.new.since (suc (suc n)))) count (subst (λ position. AreEntered position (noted c.try_word.new.since (suc (suc (length tries))))) there placed.entered) in
    record {
      searching = rw (items, placed.step, there) placed_now;
      entries = DiffersInEntries-then before now after c.search.invariant.entries c.try_word.ensures.entries;
      began = c.try_word.ensures.start ∙ c.search.invariant.began;
      stands = c.try_word.ensures.stands;
      few = omega (arith, c.if-used-limit.false, c.search.invariant.few);
      count = omega (arith, c.in-Ok.ensures.count, c.search.invariant.count);
      noted = rw items (noted-more tries _ start _ _ current tried c.search.since c.try_word.new.since 0 c.search.invariant.searching.trail c.search.invariant.noted stay last);
      long = c.try_word.ensures.long ∙ c.search.invariant.long;
    }

pub search-preserved : goal.search-preserved
search-preserved g c =
    let before = g.E.Feasible.state c.args.engine.now in
    let start = position_of before in
    let now = g.E.Feasible.state c.search.engine in
    let current = position_of now in
    let after = g.E.Feasible.state c.try_word.new.engine in
    let tries = c.search.stack.placements.items in
    let tried : Try = record { light = c.in-Words.light; index = c.in-Some-next_word_index.index } in
    let searching = subst (IsSearching start tries c.search.used current) c.in-Words.is c.search.invariant.searching in
    let sound = IsSound-formed before (g.met.E.Feasible.well_formed c.args.engine.now) in
    let died = subst (HasStepped tried now tries c.search.since after c.try_word.new.stack.placements.items c.try_word.new.since) c.in-None-led.is c.in-Ok.ensures.led in
    let failed = searching-failed start current tries c.search.used c.in-Words.light c.in-Words.from c.in-Some-next_word_index.index tried (position_of died.there) sound searching c.in-Some-next_word_index.ensures refl refl died.made.placed died.dead in
    record {
      searching = rw (died.kept, ap position_of died.same) failed;
      entries = DiffersInEntries-then before now after c.search.invariant.entries c.try_word.ensures.entries;
      began = c.try_word.ensures.start ∙ c.search.invariant.began;
      stands = c.try_word.ensures.stands;
      few = omega (arith, c.if-used-limit.false, c.search.invariant.few);
      count = omega (arith, c.in-Ok.ensures.count, c.search.invariant.count);
      noted = rw (died.kept, died.notes) c.search.invariant.noted;
      long = ap length died.notes ∙ c.search.invariant.long;
    }

pub try_word-requires-clause-stands : goal.try_word-requires-clause-stands
try_word-requires-clause-stands g c = c.search.invariant.stands

pub search-smaller-in-Some : goal.search-smaller-in-Some
search-smaller-in-Some g c =
    let left = c.back.new.self.placements.items in
    let items = c.back.ensures.placements ∙ ap (λ o. left ++ option_to_list o) c.in-Some.is in
    omega (arith, ap length items, length-append left (c.in-Some.tried ∷ []))

pub search-smaller-in-None-next_word_index : goal.search-smaller-in-None-next_word_index
search-smaller-in-None-next_word_index g c = omega (arith, ap steps c.in-Words.is)

steps-few : (next : Next) → steps next ≤ 1
steps-few Done = omega arith
steps-few Spent = omega arith
steps-few (Words light from) = omega arith

pub search-smaller-in-Some-led : goal.search-smaller-in-Some-led
search-smaller-in-Some-led g c =
    let tries = c.search.stack.placements.items in
    let tried : Try = record { light = c.in-Words.light; index = c.in-Some-next_word_index.index } in
    let placed = subst (HasStepped tried (g.E.Feasible.state c.search.engine) tries c.search.since (g.E.Feasible.state c.try_word.new.engine) c.try_word.new.stack.placements.items c.try_word.new.since) c.in-Some-led.is c.in-Ok.ensures.led in
    omega (arith, ap steps c.in-Words.is, steps-few c.in-Some-led.placed, ap length placed.pushed, length-append tries (tried ∷ []), c.if-used-limit.false, c.search.invariant.few)

pub search-smaller : goal.search-smaller
search-smaller g c =
    let tried : Try = record { light = c.in-Words.light; index = c.in-Some-next_word_index.index } in
    let died = subst (HasStepped tried (g.E.Feasible.state c.search.engine) c.search.stack.placements.items c.search.since (g.E.Feasible.state c.try_word.new.engine) c.try_word.new.stack.placements.items c.try_word.new.since) c.in-None-led.is c.in-Ok.ensures.led in
    omega (arith, ap length died.kept, c.if-used-limit.false, c.search.invariant.few)

pub returns-in-Done-clause-within : goal.returns-in-Done-clause-within
returns-in-Done-clause-within g c = omega (arith, c.search.invariant.count, c.search.invariant.few)

pub returns-in-None-clause-within : goal.returns-in-None-clause-within
returns-in-None-clause-within g c = omega (arith, c.back.ensures.count, c.search.invariant.count, c.search.invariant.few)

pub returns-then-used-limit-clause-within : goal.returns-then-used-limit-clause-within
returns-then-used-limit-clause-within g c = omega (arith, c.reset.ensures.count, c.search.invariant.count, c.search.invariant.few)

pub returns-then-used-limit-clause-limit : goal.returns-then-used-limit-clause-limit
returns-then-used-limit-clause-limit g c is_limit = omega (arith, c.reset.ensures.count, c.search.invariant.count, c.if-used-limit.true)
