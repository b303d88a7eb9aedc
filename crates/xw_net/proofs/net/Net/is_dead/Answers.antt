use Rattle.std.proofs.Common.{◌≡◌, ℕ, zero, suc, ◌<◌, Bool, true, false, cond, List, [], ◌∷◌, count_by, arith, length, get_or, refl, sym, ap, ◌∙◌, eqb}
use Rattle.std.proofs.lemmas.Bool.{eqb-true, eq-eqb}
use Rattle.std.proofs.lemmas.List.{get_or_default}
use Rattle.std.proofs.lemmas.Option.{slice_get_read}
use Rattle.xw_net.specs.Nets.{bits_at}
use Rattle.xw_net.proofs.BaseRows.ClearRows.{none_set}
use Rattle.xw_net.proofs.Stripping.DroppedSets.{no_words}
use Rattle.std.proofs.lemmas.Bool.{both_ways}
use Rattle.std.proofs.lemmas.List.{get_or_past}
use Rattle.std.proofs.lemmas.List.Sums.{sum_by-cons}
use Rattle.xw_net.specs.Nets.{bits_for}
use Rattle.xw_net.proofs.Stripping.WordsByNumber.{listed_is, entered_is}
use Rattle.xw_net.proofs.net.Net.is_dead.Goals.{then-light-watched-via-then-light-watched, then-light-watched-via-else-light-watched+then-not-watched-light, then-light-watched-via-else-light-watched+else-not-watched-light+then-index}
use Rattle.xw_net.proofs.net.Net.is_dead.Goals as goal

pub returns-clause-emptied : goal.returns-clause-emptied
returns-clause-emptied c none =
    let net = c.args.self.now in
    let light = c.args.light in
    let row_is = slice_get_read net.rows.items (length net.rows.items) light c.index-2.result.now refl c.requires.rows c.index-2.ensures in
    no_words net light (sym (c.index.ensures ∙ get_or_default net.entered.items light c.index.result.now false c.requires.entered) ∙ c.if-index.false)
    (λ k. ap (λ bits. get_or bits k false) (ap bits_at row_is) ∙ none_set c.index-2.result.now.bits (sym c.count-words.ensures ∙ eqb-true c.count-words.result 0 none) k)

-- a row without a set bit has none to count
none_counted : (bits : List Bool) → ((k : ℕ) → k < length bits → get_or bits k false ≡ false) → count_by (λ bit. bit) bits ≡ 0
none_counted [] none = refl
none_counted (true ∷ bits) none = let never : true ≡ false = none zero (omega arith) in cc
none_counted (false ∷ bits) none = omega (arith, none_counted bits (λ k below. none (suc k) (omega (arith, below))), sum_by-cons (λ bit. cond bit 1 0) false bits)

pub returns-then-light-watched-clause-alive : goal.returns-then-light-watched-clause-alive
returns-then-light-watched-clause-alive c _ watched emptied =
    let net = c.args.self.now in
    let light = c.args.light in
    elim c.then-light-watched.branch [
      | then-light-watched-via-then-light-watched w ↦ both_ways (get_or c.args.watched.now light false) (get_or_past c.args.watched.now light false w.if-light-watched.true) watched
      | then-light-watched-via-else-light-watched+then-not-watched-light w ↦ both_ways (get_or c.args.watched.now light false) w.if-not-watched-light.true watched
      | then-light-watched-via-else-light-watched+else-not-watched-light+then-index w ↦
          both_ways (get_or net.entered.items light false) (sym (entered_is net light (length (bits_for net light)) refl) ∙ emptied (length (bits_for net light)))
          (sym (w.index.ensures ∙ get_or_default net.entered.items light w.index.result.now false c.requires.entered) ∙ w.if-index.true)
    ]

pub returns-clause-alive : goal.returns-clause-alive
returns-clause-alive c some watched emptied =
    let net = c.args.self.now in
    let light = c.args.light in
    let row_is = slice_get_read net.rows.items (length net.rows.items) light c.index-2.result.now refl c.requires.rows c.index-2.ensures in
    let none = none_counted (bits_for net light) (λ k below. sym (listed_is net light k below) ∙ emptied k) in
    both_ways (eqb c.count-words.result 0) some (eq-eqb c.count-words.result 0 (c.count-words.ensures ∙ ap (count_by (λ bit. bit)) (sym (ap bits_at row_is)) ∙ none))
