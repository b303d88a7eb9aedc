use Rattle.std.proofs.Common.{◌≡◌, ℕ, ◌≤◌, false, List, None, Some, length, refl, sym, ap, subst, ◌∙◌, arith}
use Rattle.std.specs.Prelude.{Option, is_some, vec_len}
use Rattle.std.proofs.lemmas.Bool.{true≢false}
use Rattle.std.proofs.lemmas.List.{with_items_is}
use Rattle.xw_bits.specs.Bits.{RowOfBits}
use Rattle.xw_words.specs.Dictionary.{Entry, known_words}
use Rattle.xw_grid.specs.declared.lights.Light.{Light}
use Rattle.xw_grid.specs.Light.{lights_of}
use Rattle.xw_net.specs.Room.{counts_of, row_at, HaveBits}
use Rattle.xw_net.specs.Fit.{AreFitted, AreNear, IsAtRest, IsTurned}
use Rattle.xw_net.specs.Change.{before_of, word_of}
use Rattle.xw_net.proofs.Nets.MovedNets.{moved_net, near_fitted, near_whole}
use Rattle.std.proofs.lemmas.Grind.{common_steps}
use Rattle.xw_net.proofs.net.Net.move_to.Goals as goal

fitted_of : (lights lights' : List Light) (entries entries' : ℕ → List Entry) (old old' new new' : List RowOfBits) → lights ≡ lights' → entries ≡ entries' → old ≡ old' → new ≡ new' → AreFitted lights (counts_of entries) old new → AreFitted lights' (counts_of entries') old' new'
fitted_of lights lights' entries entries' old old' new new' l e o n is =
    subst (λ x. AreFitted lights' (counts_of entries') old' x) n (subst (λ x. AreFitted lights' (counts_of entries') x new) o
    (subst (λ x. AreFitted lights' (counts_of x) old new) e (subst (λ x. AreFitted x (counts_of entries) old new) l is)))

others_of : (lights lights' : List Light) (old old' new new' : List RowOfBits) → lights ≡ lights' → old ≡ old' → new ≡ new'
    → ((light : ℕ) → length lights ≤ light → row_at new light ≡ row_at old light) → (light : ℕ) → length lights' ≤ light → row_at new' light ≡ row_at old' light
others_of lights lights' old old' new new' l o n is light past =
    ap (λ x. row_at x light) (sym n) ∙ is light (subst (λ x. length x ≤ light) (sym l) past) ∙ ap (λ x. row_at x light) o

no_word : (word : Option (ℕ × ℕ)) → is_some word ≡ false → word ≡ None
no_word None none = refl
no_word (Some word) none = absurd (true≢false none)

pub returns-then-is_none-clause-moved : goal.returns-then-is_none-clause-moved
returns-then-is_none-clause-moved g c was now before lights read filled =
    let entries : g.R.Rows.entries c.args.words.now ≡ known_words now.words = λ t. λ len. read len t in
    let none : word_of c.args.change.now ≡ None = sym c.word.ensures ∙ no_word c.word.result c.if-is_none.ensures in
    let follows = c.follow.ensures in
    let turned = subst (λ ls. IsTurned ls (lights_of now.grid) c.args.self.now c.follow.new.self) before (subst (λ ls. IsTurned (before_of c.args.lights.now c.args.change.now) ls c.args.self.now c.follow.new.self) lights follows.turned) in
    let whole : (rows : List RowOfBits) → AreNear c.args.lights.now (counts_of (g.R.Rows.entries c.args.words.now)) (word_of c.args.change.now) rows → AreFitted (lights_of now.grid) (counts_of (known_words now.words)) rows rows =
    λ rows near. fitted_of c.args.lights.now (lights_of now.grid) (g.R.Rows.entries c.args.words.now) (known_words now.words) rows rows rows rows lights entries refl refl
    (near_fitted c.args.lights.now (counts_of (g.R.Rows.entries c.args.words.now)) rows (subst (λ word. AreNear c.args.lights.now (counts_of (g.R.Rows.entries c.args.words.now)) word rows) none near)) in
    moved_net was now (vec_len c.args.self.now.letters) c.args.self.now c.follow.new.self c.follow.new.self turned
    (whole c.follow.new.self.rows.items follows.rows) (λ light past. refl) (whole c.follow.new.self.base.items follows.base) refl
    (subst (λ ls. IsAtRest ls (vec_len c.args.self.now.letters) c.follow.new.self) lights follows.rest)
    filled

pub returns-then-is_none-clause-whole : goal.returns-then-is_none-clause-whole
returns-then-is_none-clause-whole g c =
    let none : word_of c.args.change.now ≡ None = sym c.word.ensures ∙ no_word c.word.result c.if-is_none.ensures in
    let exact : (rows : List RowOfBits) → AreNear c.args.lights.now (counts_of (g.R.Rows.entries c.args.words.now)) (word_of c.args.change.now) rows → HaveBits c.args.lights.now (counts_of (g.R.Rows.entries c.args.words.now)) rows =
    λ rows near. near_whole c.args.lights.now (counts_of (g.R.Rows.entries c.args.words.now)) rows (subst (λ word. AreNear c.args.lights.now (counts_of (g.R.Rows.entries c.args.words.now)) word rows) none near) in
    record { rows = exact c.follow.new.self.rows.items c.follow.ensures.rows; base = exact c.follow.new.self.base.items c.follow.ensures.base }

pub returns-clause-moved : goal.returns-clause-moved
returns-clause-moved g c was now before lights read filled =
    let entries : g.R.Rows.entries c.args.words.now ≡ known_words now.words = λ t. λ len. read len t in
    let rows = with_items_is c.follow.new.self.rows c.fit_rows.new.rows (omega (arith, c.fit_rows.auto.rows, c.deref_mut.ensures.len)) in
    let base = with_items_is c.follow.new.self.base c.fit_rows-2.new.rows (omega (arith, c.fit_rows-2.auto.rows, c.deref_mut-2.ensures.len)) in
    let rest = c.follow.ensures.rest in
    let turned = subst (λ ls. IsTurned ls (lights_of now.grid) c.args.self.now c.follow.new.self) before (subst (λ ls. IsTurned (before_of c.args.lights.now c.args.change.now) ls c.args.self.now c.follow.new.self) lights c.follow.ensures.turned) in
    let many = ap (λ (ls : List Light). length ls) lights in
    moved_net was now (vec_len c.args.self.now.letters) c.args.self.now c.follow.new.self _ turned
    (fitted_of c.args.lights.now (lights_of now.grid) (g.R.Rows.entries c.args.words.now) (known_words now.words) c.deref_mut.result.now c.follow.new.self.rows.items c.fit_rows.new.rows _ lights entries c.deref_mut.ensures.value (sym rows) c.fit_rows.ensures.fitted)
    (others_of c.args.lights.now (lights_of now.grid) c.deref_mut.result.now c.follow.new.self.rows.items c.fit_rows.new.rows _ lights c.deref_mut.ensures.value (sym rows) c.fit_rows.ensures.others)
    (fitted_of c.args.lights.now (lights_of now.grid) (g.R.Rows.entries c.args.words.now) (known_words now.words) c.deref_mut-2.result.now c.follow.new.self.base.items c.fit_rows-2.new.rows _ lights entries c.deref_mut-2.ensures.value (sym base) c.fit_rows-2.ensures.fitted)
    refl
    (record {
      few_cells = rest.few_cells;
      rows = omega (arith, rest.rows, many, ap length rows, c.fit_rows.auto.rows, c.deref_mut.ensures.len);
      base = omega (arith, rest.base, many, ap length base, c.fit_rows-2.auto.rows, c.deref_mut-2.ensures.len);
      entered = omega (arith, rest.entered, many);
      letters = rest.letters;
      held = rest.held;
      restart = rest.restart;
      pending = rest.pending;
      queue = rest.queue;
      queued_long = omega (arith, rest.queued_long, many);
      is_queued = rest.is_queued;
      taken = rest.taken;
      marked_long = omega (arith, rest.marked_long, many);
      is_marked = rest.is_marked;
    })
    filled

pub returns-clause-whole : goal.returns-clause-whole
returns-clause-whole g c = grind (arith, common_steps)

pub returns-clause-room : goal.returns-clause-room
returns-clause-room g c = grind (arith, common_steps)
