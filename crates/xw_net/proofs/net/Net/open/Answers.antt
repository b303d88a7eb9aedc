use Rattle.std.proofs.Common.{◌≡◌, ℕ, List, sym, subst, ◌∙◌, arith}
use Rattle.std.proofs.lemmas.List.{with_items_is}
use Rattle.xw_bits.specs.Bits.{RowOfBits}
use Rattle.xw_feas.specs.Flags.{set_has}
use Rattle.xw_net.specs.Opened.{Arrays, arrays_of, IsOpening}
use Rattle.xw_net.specs.Opened.IsTouched.{by_word}
use Rattle.xw_net.specs.Opened.MayGain.{if_touched, if_queued}
use Rattle.xw_net.specs.Spread.{no_positions}
use Rattle.xw_net.specs.Worklist.{ListOfLights}
use Rattle.xw_net.specs.Begin.{HasLength, Prepares, filled_of}
use Rattle.xw_net.specs.Change.{word_of, fields_of}
use Rattle.xw_net.proofs.Lists.ListsOfLights.{seeds_grow, grows_more}
use Rattle.xw_net.proofs.Revivals.LettersComeBack.{spread_grows}
use Rattle.xw_net.proofs.net.Net.open.Goals as goal

-- equal arrays
arrays_same : {rows rows' base base' : List RowOfBits} {letters letters' : List ℕ} {queue chain : ListOfLights} → rows ≡ rows' → base ≡ base' → letters ≡ letters'
    → ◌≡◌ {A = Arrays} (record { rows = rows; base = base; letters = letters; queue = queue; chain = chain }) (record { rows = rows'; base = base'; letters = letters'; queue = queue; chain = chain })
arrays_same {queue = queue} {chain = chain} a b d = λ t. record { rows = a t; base = b t; letters = d t; queue = queue; chain = chain }

pub returns-clause-opening : goal.returns-clause-opening
returns-clause-opening g c =
    let self = c.args.self.now in
    let board = c.args.board.now in
    let t = c.touch in
    let p = c.prepare in
    let letters = with_items_is c.args.self.now.letters c.touch.new.letters (omega (arith, c.touch.auto.letters, c.deref_mut.ensures.len)) in
    let base = with_items_is c.args.self.now.base c.prepare.new.base (omega (arith, c.prepare.auto.base, c.deref_mut-2.ensures.len)) in
    let rows = with_items_is c.args.self.now.rows c.prepare.new.words (omega (arith, c.prepare.auto.words, c.deref_mut-3.ensures.len)) in
    let old : Arrays = record { rows = c.deref_mut-3.result.now; base = c.deref_mut-2.result.now; letters = c.deref_mut.result.now; queue = c.args.self.now.queue; chain = c.args.self.now.chain } in
    let new : Arrays = record { rows = c.prepare.new.words; base = c.prepare.new.base; letters = c.touch.new.letters; queue = c.prepare.new.queue; chain = c.prepare.new.chain } in
    let queue = grows_more self.queue t.new.queue p.new.queue t.ensures.queue_grows p.ensures.queue in
    let chain = grows_more self.chain t.new.chain p.new.chain t.ensures.chain_grows p.ensures.chain in
    let long : (light : ℕ) → HasLength board c.word.result light → HasLength board (word_of c.args.change.now) light = λ light. subst (λ w. HasLength board w light) c.word.ensures in
    let raw : IsOpening c.args.grid.now board c.args.lights.now (g.R.Rows.entries c.args.rows.now) (fields_of c.args.lights.now c.args.change.now) (filled_of c.args.grid.now c.args.board.now c.args.change.now) old new = record {
      size = queue.size ∙ c.requires.sized.shaped.queue;
      queue = queue;
      listed = seeds_grow self.queue p.new.queue queue c.requires.queued;
      chain = chain;
      seeds = seeds_grow self.chain p.new.chain chain c.requires.seeds;
      new_queued = λ light is. p.ensures.queue.more light (t.ensures.new_queued light is);
      new_marked = λ light is. p.ensures.chain.more light (t.ensures.new_marked light is);
      turned_queued = λ light is. p.ensures.queue.more light (t.ensures.turned_queued light is);
      turned_marked = λ light is. p.ensures.chain.more light (t.ensures.turned_marked light is);
      edited = λ listed has. let edited = t.ensures.edited listed has in record {
        may = edited.may;
        queued = λ light position here at. p.ensures.queue.more light (edited.queued light position here at);
        all = edited.all;
        marked = λ filled light position here at. p.ensures.chain.more light (edited.marked filled light position here at);
      };
      spread = spread_grows board (set_has c.deref_mut.result.now) (set_has c.touch.new.letters) c.touch.new.chain c.prepare.new.chain no_positions p.ensures.chain t.ensures.spread;
      freed = t.ensures.freed;
      prepared = subst (λ cell. Prepares board (g.R.Rows.entries c.args.rows.now) (word_of c.args.change.now) cell c.deref_mut-3.result.now c.prepare.new.words c.deref_mut-2.result.now c.prepare.new.base c.prepare.new.queue c.prepare.new.chain) c.filled_in.ensures
          (subst (λ w. Prepares board (g.R.Rows.entries c.args.rows.now) w c.filled_in.result c.deref_mut-3.result.now c.prepare.new.words c.deref_mut-2.result.now c.prepare.new.base c.prepare.new.queue c.prepare.new.chain) c.word.ensures p.ensures.prepared);
      queued_within = λ member start these. p.ensures.queued_within member (t.ensures.queued_within member start these) (λ light is. these light (by_word (long light is)));
      within = λ member start these.
          p.ensures.within member (t.ensures.within member start these)
          (p.ensures.queued_within member (t.ensures.queued_within member (λ light on. these light (if_queued on)) (λ light is. these light (if_touched is))) (λ light is. these light (if_touched (by_word (long light is)))));
    } in
    let from : old ≡ arrays_of c.args.self.now = arrays_same c.deref_mut-3.ensures.value c.deref_mut-2.ensures.value c.deref_mut.ensures.value in
    let P : Arrays → Arrays → Type 0 = IsOpening c.args.grid.now c.args.board.now c.args.lights.now (g.R.Rows.entries c.args.rows.now) (fields_of c.args.lights.now c.args.change.now) (filled_of c.args.grid.now c.args.board.now c.args.change.now) in
    subst (P (arrays_of c.args.self.now)) (arrays_same (sym rows) (sym base) (sym letters)) (subst (λ a. P a new) from raw)
