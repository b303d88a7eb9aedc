use Rattle.std.proofs.Common.{◌≡◌, ℕ, ◌<◌, List, true, length, refl, subst, sym, ap, ◌∙◌, arith}
use Rattle.std.specs.Prelude.{IsTrue}
use Rattle.std.proofs.lemmas.List.{with_items_is}
use Rattle.xw_feas.specs.Board.{Board, light_at}
use Rattle.xw_feas.specs.Feasible.{may_stand}
use Rattle.xw_feas.specs.Flags.{set_has}
use Rattle.xw_net.specs.Nets.{marks_of, letter_stands, queued_in}
use Rattle.xw_net.specs.Spread.{bits_in, none_waits, barren_positions, Lit, lit, IsLit, IsSpread, IsReachClosed}
use Rattle.xw_net.specs.Worklist.{is_marked}
use Rattle.xw_net.specs.Brought.{IsBase}
use Rattle.xw_bits.specs.Bits.{RowOfBits}
use Rattle.xw_net.proofs.Lists.ListsOfLights.{marked_below}
use Rattle.xw_net.proofs.Revivals.ChainOfNet.{lit_of, lit_same, brought_from}
use Rattle.xw_net.proofs.Revivals.ChainIsRevival.{brought_is_revival, brought_covers, brought_ready, region_reach_closed}
use Rattle.std.proofs.lemmas.Grind.{common_steps}
use Rattle.xw_net.proofs.net.Net.bring_back.Goals as goal

pub returns-clause-queue : goal.returns-clause-queue
unfolding queued_in is_marked
returns-clause-queue c listed light h = c.spread.ensures.listed listed light h

pub spread-requires-clause-bits : goal.spread-requires-clause-bits
spread-requires-clause-bits c light below =
    let bits = c.requires.bits in
    ap (λ (rows : List RowOfBits). length (bits_in rows light)) c.deref_mut.ensures.value ∙ bits.1 light below
    ∙ sym (bits.2.bits light below) ∙ sym (ap (λ (rows : List RowOfBits). length (bits_in rows light)) c.deref.ensures.value)

pub returns-clause-brought : goal.returns-clause-brought
returns-clause-brought c dictionary is_base' =
    let is_base = subst (IsBase c.args.board.now dictionary) (sym c.deref.ensures.value) is_base' in
    let rows = with_items_is c.args.self.now.rows c.spread.new.rows (omega (arith, c.spread.auto.rows, c.deref_mut.ensures.len)) in
    let entered = with_items_is c.args.self.now.entered c.spread.new.entered (omega (arith, c.spread.auto.entered, c.deref_mut-2.ensures.len)) in
    let letters = with_items_is c.args.self.now.letters c.spread.new.letters (omega (arith, c.spread.auto.letters, c.deref_mut-3.ensures.len)) in
    let restart = with_items_is c.args.self.now.restart c.spread.new.restart (omega (arith, c.spread.auto.restart, c.deref_mut-4.ensures.len)) in
    let old_lit = lit_same _ _ _ _ _ _ c.args.self.now.queue c.deref_mut.ensures.value c.deref_mut-2.ensures.value c.deref_mut-4.ensures.value in
    let new_lit = lit_same _ _ _ _ _ _ c.spread.new.queue (sym rows) (sym entered) (sym restart) in
    let now : Lit = lit c.spread.new.rows c.spread.new.entered c.spread.new.restart c.spread.new.queue in
    let lit_old = subst (λ l. IsLit c.args.board.now c.deref.result.now l now (is_marked c.spread.new.chain.marks) none_waits) old_lit c.spread.ensures.words in
    let lit_now = subst (λ l. IsLit c.args.board.now c.deref.result.now (lit_of c.args.self.now) l (is_marked c.spread.new.chain.marks) none_waits) new_lit lit_old in
    let spread_old = subst (λ ls. IsSpread c.args.board.now (set_has ls) (set_has c.spread.new.letters) (is_marked c.spread.new.chain.marks) none_waits (barren_positions c.args.board.now c.deref.result.now)) c.deref_mut-3.ensures.value c.spread.ensures.spread in
    let spread_now = subst (λ ls. IsSpread c.args.board.now (set_has c.args.self.now.letters.items) (set_has ls) (is_marked c.spread.new.chain.marks) none_waits (barren_positions c.args.board.now c.deref.result.now)) (sym letters) spread_old in
    let in_board : (light : ℕ) → is_marked c.spread.new.chain.marks light ≡ true → light < length c.args.board.now.lights =
    λ light on. let below = marked_below c.spread.new.chain.marks light on in omega (arith, below, c.spread.ensures.size, c.requires.chained.chain) in
    brought_from c.args.board.now dictionary c.deref.result.now c.args.self.now _ (is_marked c.spread.new.chain.marks) is_base in_board lit_now spread_now refl refl

pub returns-clause-within : goal.returns-clause-within
unfolding letter_stands
returns-clause-within c member closed seeds light on = c.spread.ensures.within member (subst (λ ls. IsReachClosed c.args.board.now (set_has ls) member) (sym c.deref_mut-3.ensures.value) closed) seeds light on

pub returns-clause-revived : goal.returns-clause-revived
returns-clause-revived c before old new same words letters is_base begun =
    brought_is_revival before c.args.board.now old new same words letters (marks_of c.args.self.now) _ (is_marked c.args.self.now.chain.marks) _ begun c.spread.ensures.more (returns-clause-brought c new is_base)

pub returns-clause-covers : goal.returns-clause-covers
returns-clause-covers c before old new same words letters is_base matching exact begun =
    brought_covers before c.args.board.now old new same words letters (marks_of c.args.self.now) _ (is_marked c.args.self.now.chain.marks) _ begun c.spread.ensures.more (returns-clause-brought c new is_base) matching exact

pub returns-clause-ready : goal.returns-clause-ready
returns-clause-ready c entries dictionary setting is_base ready covers =
    brought_ready c.args.board.now dictionary setting.laid_out setting.words setting.apart (marks_of c.args.self.now) _ (is_marked c.args.self.now.chain.marks) _ c.spread.ensures.more ready (returns-clause-brought c dictionary is_base) covers

pub returns-clause-region : goal.returns-clause-region
returns-clause-region c before after action member words letters is region exact kept seeds =
    let P : Board → Type 0 = λ b. (cell letter : ℕ) → IsTrue (may_stand b cell letter) → IsTrue (letters cell letter) → IsTrue (letter_stands c.args.self.now cell letter) in
    let closed = region_reach_closed before after action member region words letters exact (letter_stands c.args.self.now) (subst P is kept) in
    let Q : Board → Type 0 = λ b. IsReachClosed b (letter_stands c.args.self.now) (λ light. member (light_at b light)) in
    returns-clause-within c (λ light. member (light_at c.args.board.now light)) (subst Q (sym is) closed) seeds

pub returns-clause-shaped : goal.returns-clause-shaped
returns-clause-shaped c = grind (arith, common_steps)

pub returns-clause-chained : goal.returns-clause-chained
returns-clause-chained c = grind (arith, common_steps)

pub returns-clause-bits : goal.returns-clause-bits
returns-clause-bits c = grind (arith, common_steps)

pub returns-clause-row_room : goal.returns-clause-row_room
returns-clause-row_room c = grind (arith, common_steps)
