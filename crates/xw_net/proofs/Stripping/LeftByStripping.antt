-- What stripping keeps.
use Rattle.std.proofs.Common.{◌≡◌, ℕ, List, length, refl, ap, ◌∙◌, arith}
use Rattle.std.specs.Prelude.{vec_len}
use Rattle.xw_net.specs.Room.{row_at}
use Rattle.xw_net.specs.Nets.{IsLeft, IsChained}
use Rattle.xw_net.specs.Brought.{HasBase}
use Rattle.xw_bits.specs.Bits.{RowOfBits}
use Rattle.xw_words.specs.Dictionary.{Entry}
use Rattle.xw_feas.specs.Board.{Board, light_at}
use Rattle.xw_net.specs.declared.net.Net.{Net}

pub left_same : (net : Net) → IsLeft net net
left_same net = record {
  base = refl;
  chain = refl;
  spare = refl;
  long = refl;
  rows = λ light. omega arith;
}

pub left_left : {a b c : Net} → IsLeft a b → IsLeft b c → IsLeft a c
left_left f g = record {
  base = g.base ∙ f.base;
  chain = g.chain ∙ f.chain;
  spare = g.spare ∙ f.spare;
  long = g.long ∙ f.long;
  rows = λ light. omega (arith, f.rows light, g.rows light);
}

-- replacing the queue
pub left_queue : (net other : Net) → other ≡ record net { queue = other.queue } → IsLeft net other
left_queue net other same = record {
  base = ap (λ (n : Net). n.base) same;
  chain = ap (λ (n : Net). n.chain) same;
  spare = ap (λ (n : Net). n.spare) same;
  long = ap (λ (n : Net). length n.rows.items) same;
  rows = λ light. omega (arith, ap (λ (n : Net). (row_at n.rows.items light).room) same);
}

-- the arrays that a chain needs stay
pub left_chained : (board : Board) (old new : Net) → IsLeft old new → IsChained board old → IsChained board new
left_chained board old new left chained = record {
  base = omega (arith, chained.base, ap (λ v. vec_len v) left.base);
  chain = ap (λ list. length list.marks) left.chain ∙ chained.chain;
}

-- base rows for equal words
pub base_read : (board : Board) (entries entries' : ℕ → List Entry) (base : List RowOfBits) → ((len : ℕ) → entries len ≡ entries' len) → HasBase board entries base → HasBase board entries' base
base_read board entries entries' base same has = record {
  rows = has.rows;
  bits = λ light lt. has.bits light lt ∙ ap length (same (length (light_at board light)));
}
