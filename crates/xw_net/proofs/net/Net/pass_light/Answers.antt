use Rattle.std.proofs.Common.{◌≡◌, ◌<◌, length, get_or, refl, sym, ap, ◌∙◌, subst, inl, inr, arith}
use Rattle.std.proofs.lemmas.Bool.{cases_lt}
use Rattle.std.proofs.lemmas.List.{get_or_default}
use Rattle.std.proofs.lemmas.Option.{slice_get_read}
use Rattle.xw_letters.specs.LetterSet.{has}
use Rattle.xw_words.specs.Dictionary.{known_words}
use Rattle.xw_feas.specs.Board.{light_at}
use Rattle.xw_feas.specs.Flags.{set_has}
use Rattle.xw_net.specs.Marks.{cell_at}
use Rattle.xw_net.specs.Nets.{HasBits, marks_of, letter_stands}
use Rattle.xw_net.specs.Steps.{ListsOn}
use Rattle.xw_net.specs.declared.net.Net.{Net}
use Rattle.xw_net.proofs.Stripping.DroppedLetters.{struck_struck, words_struck, held_struck}
use Rattle.xw_net.proofs.Stripping.HeldWords.{same_holding}
use Rattle.xw_net.proofs.Stripping.LeftByStripping.{left_left}
use Rattle.xw_net.proofs.Stripping.PassedLights.{letters_at, has_word, is_supported}
use Rattle.xw_net.proofs.Stripping.StepsKeepInvariant.{same_stays}
use Rattle.xw_net.proofs.net.Net.pass_light.Goals as goal

pub keep_listed-requires-clause-there : goal.keep_listed-requires-clause-there
keep_listed-requires-clause-there c = c.at.ensures.there c.args.board.now c.of-positions.ensures.positions

pub loop-position-preserved : goal.loop-position-preserved
loop-position-preserved c =
    let inv = c.loop-position.invariant in
    let k = c.keep_listed.ensures in
    let board = c.args.board.now in
    let light = c.args.light in
    let here = c.at.result in
    let of = c.of-positions.ensures in
    let light_is : here.light ≡ light = c.at.ensures.light ∙ of.light in
    let cell_is : cell_at board here.light here.position ≡ cell_at board light c.loop-position.position = ap (λ n. cell_at board n here.position) light_is ∙ ap (cell_at board light) c.at.ensures.position in
    let entries = known_words c.args.bank.now.words in
    let at = c.loop-position.position in
    let sets = c.letters_of-listed.result in
    let row_is = slice_get_read c.args.self.now.rows.items (length c.args.self.now.rows.items) c.args.light c.index.result.now refl (omega (arith, c.requires.light, c.requires.net.shaped.rows)) c.index.ensures in
    let len_is : c.len.result ≡ length (light_at c.args.board.now c.args.light) = c.len.ensures ∙ ap length c.of-positions.ensures.positions.cells ∙ ap (λ n. length (light_at c.args.board.now n)) c.of-positions.ensures.light in
    let letters = letters_at c.args.self.now (known_words c.args.bank.now.words) c.args.light (length (light_at c.args.board.now c.args.light)) c.len.result c.index.result.now c.letters_of-listed.result row_is len_is c.letters_of-listed.ensures.letters in
    let below : c.loop-position.position < length (light_at c.args.board.now c.args.light) = omega (arith, c.loop-position-test.true, len_is) in
    let set_at : get_or c.letters_of-listed.result c.loop-position.position c.index-listed-position.result ≡ get_or c.letters_of-listed.result c.loop-position.position 0 =
    get_or_default sets at c.index-listed-position.result 0 (omega (arith, below, c.requires.short, c.letters_of-listed.ensures.long)) in
    let listed = get_or c.letters_of-listed.result c.loop-position.position c.index-listed-position.result in
    let lists_on : ListsOn board light at listed c.loop-position.self c.keep_listed.new.self =
    subst (λ n. ListsOn board light n listed c.loop-position.self c.keep_listed.new.self) c.at.ensures.position
    (subst (λ n. ListsOn board n here.position listed c.loop-position.self c.keep_listed.new.self) light_is k.kept) in
    record {
      shaped = k.shaped;
      rest = left_left inv.rest k.rest;
      same = struck_struck c.args.self.now c.loop-position.self c.keep_listed.new.self inv.same k.same;
      fewer = omega (arith, inv.fewer, k.fewer);
      waits = λ other w. k.waits other (inv.waits other w);
      pending = λ slot letter pends. elim (k.pending slot letter pends) [ inl before ↦ inv.pending slot letter before | inr now ↦ inr now ];
      listed = λ position letter lt alive. elim (cases_lt position c.loop-position.position) [
        | inl before ↦ inv.listed position letter before (k.alive (cell_at board light position) letter alive)
        | inr from ↦
            let e : c.loop-position.position ≡ position = omega (arith, lt, from) in
            ap (λ n. set_has sets n letter) (sym e) ∙ ap (λ s. has s letter) (sym set_at) ∙ k.listed letter (ap (λ n. letter_stands c.keep_listed.new.self n letter) cell_is ∙ ap (λ n. letter_stands c.keep_listed.new.self (cell_at c.args.board.now c.args.light n) letter) e ∙ alive)
      ];
      kept = λ ticks dictionary measure setting in_set under.
          lists_on dictionary measure ticks setting.apart in_set
          (λ letter choice _ stands has_letter. ap (λ s. has s letter) set_at ∙ has_word board entries dictionary setting c.args.self.now c.requires.net.bits light at (c.requires.light, below) sets letters c.requires.open letter choice (sym (words_struck c.args.self.now c.loop-position.self inv.same light choice) ∙ stands) has_letter)
          (inv.kept ticks dictionary measure setting in_set under);
    }

pub returns-clause-step : goal.returns-clause-step
returns-clause-step c =
    let inv = c.loop-position.invariant in
    record {
      shaped = inv.shaped;
      bits = subst (λ (n : Net). HasBits c.args.board.now (known_words c.args.bank.now.words) n) (sym inv.same) c.requires.net.bits;
      rest = inv.rest;
    }

pub returns-clause-check : goal.returns-clause-check
returns-clause-check c =
    let inv = c.loop-position.invariant in
    record {
      fewer = inv.fewer;
      waits = inv.waits;
      holding = λ dictionary setting. same_holding c.args.board.now dictionary (marks_of c.args.self.now) (marks_of c.loop-position.self) (held_struck c.args.self.now c.loop-position.self inv.same);
      pending = inv.pending;
    }

pub returns-clause-held : goal.returns-clause-held
returns-clause-held c dictionary setting position letter here alive =
    let inv = c.loop-position.invariant in
    let row_is = slice_get_read c.args.self.now.rows.items (length c.args.self.now.rows.items) c.args.light c.index.result.now refl (omega (arith, c.requires.light, c.requires.net.shaped.rows)) c.index.ensures in
    let len_is : c.len.result ≡ length (light_at c.args.board.now c.args.light) = c.len.ensures ∙ ap length c.of-positions.ensures.positions.cells ∙ ap (λ n. length (light_at c.args.board.now n)) c.of-positions.ensures.light in
    let letters = letters_at c.args.self.now (known_words c.args.bank.now.words) c.args.light (length (light_at c.args.board.now c.args.light)) c.len.result c.index.result.now c.letters_of-listed.result row_is len_is c.letters_of-listed.ensures.letters in
    same_stays c.args.board.now dictionary setting.apart (marks_of c.args.self.now) (marks_of c.loop-position.self) (words_struck c.args.self.now c.loop-position.self inv.same) (held_struck c.args.self.now c.loop-position.self inv.same) c.args.light position letter
    (is_supported c.args.board.now (known_words c.args.bank.now.words) dictionary setting c.args.self.now c.requires.net.bits c.args.light position here c.letters_of-listed.result letters letter
    (inv.listed position letter (omega (arith, here.1, c.loop-position-test.false, len_is)) alive))
