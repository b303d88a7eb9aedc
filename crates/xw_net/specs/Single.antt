-- The facts that an engine keeps of levels are propositions (two proofs of one are equal), so ghost fields can hold them.
use Rattle.std.specs.Prelude.{ℕ, List}
use Rattle.std.specs.Coded.{Coded-set, coded_ℕ, coded_bool, coded_list, le_prop}
use mathlib.Core.HLevel.{Π_prop}
use Rattle.xw_bits.specs.Bits.{RowOfBits}
use Rattle.xw_words.specs.Dictionary.{Entry}
use Rattle.xw_feas.specs.Board.{Board}
use Rattle.xw_net.specs.Level.{IsWay, IsRowOf, LeadBack}
use Rattle.xw_net.specs.Seen.{AreSeen}
use Rattle.xw_net.specs.declared.net.Net.{Net}
use Rattle.xw_net.specs.declared.level.KeptRow.{KeptRow}
use Rattle.xw_net.specs.declared.level.Level.{Level}

IsRowOf-prop : (one : KeptRow) (rows : List RowOfBits) → IsProp (IsRowOf one rows)
IsRowOf-prop one rows x y = λ i. record { within = le_prop x.within y.within i; bits = Coded-set (coded_list coded_bool) _ _ x.bits y.bits i }

LeadBack-prop : (kept : List KeptRow) (rows before : List RowOfBits) → IsProp (LeadBack kept rows before)
LeadBack-prop kept rows before x y = λ i. record {
  many = Coded-set coded_ℕ _ _ x.many y.many i;
  long = Π_prop (λ light. Coded-set coded_ℕ _ _) x.long y.long i;
  right = Π_prop (λ one. Π_prop (λ there. IsRowOf-prop one before)) x.right y.right i;
  others = Π_prop (λ light. Π_prop (λ none. Coded-set (coded_list coded_bool) _ _)) x.others y.others i;
}

pub IsWay-prop : (level : Level) (now before : Net) → IsProp (IsWay level now before)
IsWay-prop level now before x y = λ i. record {
  rows = LeadBack-prop level.rows.items now.rows.items before.rows.items x.rows y.rows i;
  base = LeadBack-prop level.base.items now.base.items before.base.items x.base y.base i;
  letters = Coded-set (coded_list coded_ℕ) _ _ x.letters y.letters i;
  entered = Coded-set (coded_list coded_bool) _ _ x.entered y.entered i;
  as_many_letters = Coded-set coded_ℕ _ _ x.as_many_letters y.as_many_letters i;
  as_many_flags = Coded-set coded_ℕ _ _ x.as_many_flags y.as_many_flags i;
  held = Coded-set (coded_list coded_ℕ) _ _ x.held y.held i;
  restart = Coded-set (coded_list coded_ℕ) _ _ x.restart y.restart i;
}

pub AreSeen-prop : (board : Board) (entries : ℕ → List Entry) (seen : List ℕ) → IsProp (AreSeen board entries seen)
AreSeen-prop board entries seen x y = λ i. record {
  long = Coded-set coded_ℕ _ _ x.long y.long i;
  right = Π_prop (λ light. Π_prop (λ position. Π_prop (λ there. Π_prop (λ k. Π_prop (λ below. Π_prop (λ known. Coded-set coded_bool _ _)))))) x.right y.right i;
}
