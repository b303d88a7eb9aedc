use Rattle.std.proofs.Common.{◌≡◌, codes, refl, rules, append_assoc}
use Rattle.xw_arguments.specs.Tips.{list_line, option_line, puzzle_line, session_line, tip_text}
use Rattle.xw_arguments.proofs.TipLemmas.{has_tip}
use Rattle.xw_arguments.proofs.tips.tipped.Goals as goal

pub returns-in-Option : goal.returns-in-Option
returns-in-Option c =
    let is : tip_text c.args.tip ≡ option_line c.in-Option.option.now = search rules in
    has_tip (λ text. text.bytes.items) c.format.result _ _ _ c.args.error.now (codes "\n\n  tip: a similar argument exists: '") c.in-Option.option.now (codes "'\n") c.args.rest.now is refl (simp append_assoc) c.format.ensures.ok

pub returns-in-List : goal.returns-in-List
returns-in-List c =
    let is : tip_text c.args.tip ≡ list_line c.in-List.file.now = search rules in
    has_tip (λ text. text.bytes.items) c.format-in-List.result _ _ _ c.args.error.now (codes "\n\n  tip: to load it as the word list, use '--dict ") c.in-List.file.now (codes "'\n") c.args.rest.now is refl (simp append_assoc) c.format-in-List.ensures.ok

pub returns-in-Puzzle : goal.returns-in-Puzzle
returns-in-Puzzle c =
    let is : tip_text c.args.tip ≡ puzzle_line c.in-Puzzle.file.now = search rules in
    has_tip (λ text. text.bytes.items) c.format-in-Puzzle.result _ _ _ c.args.error.now (codes "\n\n  tip: to start with this puzzle, use '--from ") c.in-Puzzle.file.now (codes "'\n") c.args.rest.now is refl (simp append_assoc) c.format-in-Puzzle.ensures.ok

pub returns-in-Session : goal.returns-in-Session
returns-in-Session c =
    let is : tip_text c.args.tip ≡ session_line c.in-Session.file.now = search rules in
    has_tip (λ text. text.bytes.items) c.format-in-Session.result _ _ _ c.args.error.now (codes "\n\n  tip: to go on with this session, use '--journal ") c.in-Session.file.now (codes "'\n") c.args.rest.now is refl (simp append_assoc) c.format-in-Session.ensures.ok
