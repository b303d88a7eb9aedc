-- A level still leads back after a kept light lost words, and after letters were removed.
use Rattle.std.proofs.Common.{◌≡◌, ◌≢◌, ℕ, [], ◌∷◌, ◌++◌, false, length, get_or, sym, ap, ◌∙◌, subst}
use Rattle.std.specs.Prelude.{vec_len}
use Rattle.xw_net.specs.Level.{HasKept, LeadBack, IsWay}
use Rattle.xw_net.specs.Nets.{word_stands}
use Rattle.xw_net.specs.Spread.{bits_in}
use Rattle.xw_net.specs.Steps.{IsStruckAt, IsStruckFrom}
use Rattle.xw_net.specs.declared.level.Level.{Level}
use Rattle.xw_net.specs.declared.net.Net.{Net}
use Rattle.xw_net.proofs.Levels.KeptRows.{changes_kept}

-- a light of which a row is kept lost words
pub way_struck : (level now : Level) (old struck before : Net) (light : ℕ) → now ≡ record level { rows = now.rows } → HasKept now.rows.items light → LeadBack now.rows.items old.rows.items before.rows.items → IsStruckAt light old struck
    → length struck.rows.items ≡ length old.rows.items → vec_len struck.entered ≡ vec_len old.entered → length (bits_in struck.rows.items light) ≡ length (bits_in old.rows.items light) → IsWay level old before → IsWay now struck before
way_struck level now old struck before light rest has back only many flags long way = record {
  rows = changes_kept now.rows.items old.rows.items struck.rows.items before.rows.items light has many long only.rows back;
  base = subst (λ (l : Level). LeadBack l.base.items struck.base.items before.base.items) (sym rest) (subst (λ (n : Net). LeadBack level.base.items n.base.items before.base.items) (sym only.rest) way.base);
  letters = ap (λ (l : Level). l.letters.items) rest ∙ way.letters;
  entered = ap (λ (l : Level). l.entered.items) rest ∙ way.entered;
  as_many_letters = ap (λ (n : Net). vec_len n.letters) only.rest ∙ way.as_many_letters;
  as_many_flags = flags ∙ way.as_many_flags;
  held = ap (λ (n : Net). n.held.items) only.rest ∙ way.held;
  restart = ap (λ (n : Net). n.restart.items) only.rest ∙ way.restart;
}

-- letters were removed
pub way_dropped : (level : Level) (old new before : Net) → IsStruckFrom old new → vec_len new.letters ≡ vec_len old.letters → IsWay level old before → IsWay level new before
way_dropped level old new before same long way = record {
  rows = subst (λ (n : Net). LeadBack level.rows.items n.rows.items before.rows.items) (sym same) way.rows;
  base = subst (λ (n : Net). LeadBack level.base.items n.base.items before.base.items) (sym same) way.base;
  letters = way.letters;
  entered = way.entered;
  as_many_letters = long ∙ way.as_many_letters;
  as_many_flags = ap (λ (n : Net). vec_len n.entered) same ∙ way.as_many_flags;
  held = ap (λ (n : Net). n.held.items) same ∙ way.held;
  restart = ap (λ (n : Net). n.restart.items) same ∙ way.restart;
}

-- another queue
pub way_queue : (level : Level) (old new before : Net) → new ≡ record old { queue = new.queue } → IsWay level old before → IsWay level new before
way_queue level old new before same way = subst (λ (n : Net). IsWay level n before) (sym same)
    (record { rows = way.rows; base = way.base; letters = way.letters; entered = way.entered; as_many_letters = way.as_many_letters; as_many_flags = way.as_many_flags; held = way.held; restart = way.restart })

-- other work that is left
pub way_halted : (level : Level) (old new before : Net) → new ≡ record old { queue = new.queue; pending = new.pending } → IsWay level old before → IsWay level new before
way_halted level old new before same way = subst (λ (n : Net). IsWay level n before) (sym same)
    (record { rows = way.rows; base = way.base; letters = way.letters; entered = way.entered; as_many_letters = way.as_many_letters; as_many_flags = way.as_many_flags; held = way.held; restart = way.restart })

-- another note of a light
pub way_noted : (level : Level) (old new before : Net) → new ≡ record old { emptied = new.emptied } → IsWay level old before → IsWay level new before
way_noted level old new before same way = subst (λ (n : Net). IsWay level n before) (sym same)
    (record { rows = way.rows; base = way.base; letters = way.letters; entered = way.entered; as_many_letters = way.as_many_letters; as_many_flags = way.as_many_flags; held = way.held; restart = way.restart })

-- the words of another light stay
pub words_elsewhere : (old struck : Net) (light other choice : ℕ) → IsStruckAt light old struck → other ≢ light → word_stands struck other choice ≡ word_stands old other choice
unfolding word_stands
words_elsewhere old struck light other choice only apart =
    ap (λ bits. get_or (bits ++ get_or struck.entered.items other false ∷ []) choice false) (only.rows other apart)
    ∙ ap (λ flag. get_or (bits_in old.rows.items other ++ flag ∷ []) choice false) (only.flags other apart)
