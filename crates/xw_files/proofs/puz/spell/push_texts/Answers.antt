use Rattle.std.proofs.Common.{◌∙◌, ap, ◌++◌, map, []}
use Rattle.xw_files.specs.Puz.Spelling.{ended, with_nuls}
use Rattle.xw_files.proofs.PuzLemmas.Pushed.{texts-pushed}
use Rattle.xw_files.proofs.puz.spell.push_texts.Goals as goal

pub returns : goal.returns
returns c =
    let fields = c.args.fields.now in
    let clues = rw c.deref.ensures.value at c.in_ok-push_clues.ensures in
    c.in_ok-extend_from_slice.ensures.items
    ∙ ap (λ xs. xs ++ fields.rest.now) (c.in_ok-push_text-4.ensures
    ∙ ap (λ xs. xs ++ ended fields.notes.now) (clues
    ∙ ap (λ xs. xs ++ with_nuls (map (λ clue. clue.now) fields.clues.items) []) (c.in_ok-push_text-3.ensures
    ∙ ap (λ xs. xs ++ ended fields.copyright.now) (c.in_ok-push_text-2.ensures
    ∙ ap (λ xs. xs ++ ended fields.author.now) c.in_ok-push_text.ensures))))
    ∙ texts-pushed c.args.out.now.items fields.title.now fields.author.now fields.copyright.now fields.notes.now fields.rest.now (map (λ clue. clue.now) fields.clues.items)
