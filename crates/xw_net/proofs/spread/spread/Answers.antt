use Rattle.std.proofs.Common.{◌≡◌, ℕ, true, length, refl, sym, subst, ap, ◌∙◌, arith}
use Rattle.xw_feas.specs.Flags.{set_has}
use Rattle.xw_net.specs.Spread.{Lit, lit, IsLit, IsSpread, positions_from, either_position, barren_positions, none_waits, no_positions}
use Rattle.xw_net.specs.Worklist.{ListOfLights, is_marked, is_waiting}
use Rattle.xw_net.proofs.Lists.ListsOfLights.{waits_pop, quiet_pop, waiting-none}
use Rattle.xw_net.proofs.Revivals.LettersComeBack.{spread_fewer, spread_start, spread_taken, spread_end}
use Rattle.xw_net.proofs.Revivals.WordsComeBack.{lit_start, lit_grows, lit_end}
use Rattle.xw_net.proofs.spread.spread.Goals as goal

pub loop-light-init : goal.loop-light-init
loop-light-init c =
    let start : Lit = lit c.args.rows.now c.args.entered.now c.args.restart.now c.args.queue.now in
    record {
      letters_len = refl;
      size = refl;
      marked = λ light h. c.requires.seeds light ∙ h;
      more = λ light h. h;
      row_room = λ other. omega arith;
      listed = λ listed. listed;
      lit = lit_start c.args.board.now c.args.base.now start (is_marked c.args.chain.now.marks) (is_waiting c.args.chain.now.lights) c.requires.seeds;
      spread = spread_fewer c.args.board.now (set_has c.args.letters.now) (set_has c.args.letters.now) (is_marked c.args.chain.now.marks) (is_waiting c.args.chain.now.lights) no_positions (barren_positions c.args.board.now c.args.base.now) (λ light position later. refl)
          (spread_start c.args.board.now (set_has c.args.letters.now) (is_marked c.args.chain.now.marks) (is_waiting c.args.chain.now.lights) c.requires.seeds);
      within = λ member closed seeds. seeds;
    }

pub loop-light-preserved : goal.loop-light-preserved
loop-light-preserved c =
    let inv = c.loop-light.invariant in
    let k = c.raise_if_worded in
    let b = c.bring_words in
    let start : Lit = lit c.args.rows.now c.args.entered.now c.args.restart.now c.args.queue.now in
    let is_on : is_marked c.loop-light.chain.marks c.in-Some.light ≡ true = c.in-Some.ensures.marked in
    let popped = c.in-Some.ensures.taken in
    let left = c.take_last.new.self in
    let marks_stay = (ap (λ (l : ListOfLights). l.marks) c.take_last.ensures.rest) in
    let on_left : (light : ℕ) → is_marked c.loop-light.chain.marks light ≡ true → is_marked c.take_last.new.self.marks light ≡ true = λ light h. ap (λ m. is_marked m light) (ap (λ (l : ListOfLights). l.marks) c.take_last.ensures.rest) ∙ h in
    let taken = subst (λ m. IsSpread c.args.board.now (set_has c.args.letters.now) (set_has c.loop-light.letters) (is_marked m) (is_waiting c.take_last.new.self.lights) (either_position (positions_from c.in-Some.light 0) (barren_positions c.args.board.now c.args.base.now))) (sym (ap (λ (l : ListOfLights). l.marks) c.take_last.ensures.rest))
    (spread_taken c.args.board.now (set_has c.args.letters.now) (set_has c.loop-light.letters) (is_marked c.loop-light.chain.marks) (barren_positions c.args.board.now c.args.base.now) c.loop-light.chain.lights c.take_last.new.self.lights c.in-Some.light popped inv.spread) in
    let now : Lit = lit c.bring_words.new.rows c.bring_words.new.entered c.bring_words.new.restart c.bring_words.new.queue in
    let brought = subst (λ m. IsLit c.args.board.now c.args.base.now start now (is_marked m) (is_waiting c.take_last.new.self.lights)) (sym (ap (λ (l : ListOfLights). l.marks) c.take_last.ensures.rest))
    (b.ensures.lit start (is_marked c.loop-light.chain.marks) (is_waiting c.loop-light.chain.lights) (is_waiting c.take_last.new.self.lights) is_on
    (λ i n quiet. quiet_pop c.loop-light.chain.lights c.take_last.new.self.lights c.in-Some.light i popped n quiet) inv.lit) in
    record {
      letters_len = k.ensures.letters ∙ inv.letters_len;
      size = k.ensures.grows.size ∙ ap length (ap (λ (l : ListOfLights). l.marks) c.take_last.ensures.rest) ∙ inv.size;
      marked = k.ensures.grows.waits (λ i h. on_left i (inv.marked i (waits_pop c.loop-light.chain.lights c.take_last.new.self.lights c.in-Some.light i popped h)));
      more = λ i h. k.ensures.grows.more i (on_left i (inv.more i h));
      row_room = λ other. omega (arith, inv.row_room other, b.ensures.row_room other);
      listed = λ listed. b.ensures.listed (inv.listed listed);
      lit = lit_grows c.args.board.now c.args.base.now start now left c.raise_if_worded.new.chain k.ensures.grows brought;
      spread = k.ensures.spread (set_has c.args.letters.now) taken;
      within = λ member closed seeds. k.ensures.within (set_has c.args.letters.now) taken member closed (λ light h. inv.within member closed seeds light (ap (λ m. is_marked m light) (sym (ap (λ (l : ListOfLights). l.marks) c.take_last.ensures.rest)) ∙ h));
    }

pub raise_if_worded-requires-clause-marked : goal.raise_if_worded-requires-clause-marked
raise_if_worded-requires-clause-marked c = ap (λ m. is_marked m c.in-Some.light) (ap (λ (l : ListOfLights). l.marks) c.take_last.ensures.rest) ∙ c.in-Some.ensures.marked

pub returns-clause-words : goal.returns-clause-words
returns-clause-words c =
    let start : Lit = lit c.args.rows.now c.args.entered.now c.args.restart.now c.args.queue.now in
    let now : Lit = lit c.loop-light.rows c.loop-light.entered c.loop-light.restart c.loop-light.queue in
    subst (λ m. IsLit c.args.board.now c.args.base.now start now (is_marked m) none_waits) (sym (ap (λ (l : ListOfLights). l.marks) c.take_last.ensures.rest))
    (lit_end c.args.board.now c.args.base.now start now (is_marked c.loop-light.chain.marks) (is_waiting c.loop-light.chain.lights) (λ i. waiting-none c.loop-light.chain.lights i c.in_default.ensures.none) c.loop-light.invariant.lit)

pub returns-clause-spread : goal.returns-clause-spread
returns-clause-spread c =
    subst (λ m. IsSpread c.args.board.now (set_has c.args.letters.now) (set_has c.loop-light.letters) (is_marked m) none_waits (barren_positions c.args.board.now c.args.base.now)) (sym (ap (λ (l : ListOfLights). l.marks) c.take_last.ensures.rest))
    (spread_end c.args.board.now (set_has c.args.letters.now) (set_has c.loop-light.letters) (is_marked c.loop-light.chain.marks) (is_waiting c.loop-light.chain.lights) (barren_positions c.args.board.now c.args.base.now) (λ i. waiting-none c.loop-light.chain.lights i c.in_default.ensures.none) c.loop-light.invariant.spread)

pub returns-clause-within : goal.returns-clause-within
returns-clause-within c member closed seeds light h = c.loop-light.invariant.within member closed seeds light (ap (λ m. is_marked m light) (sym (ap (λ (l : ListOfLights). l.marks) c.take_last.ensures.rest)) ∙ h)
