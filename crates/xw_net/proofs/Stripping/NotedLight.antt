-- A net keeps what it stands for when another light is noted as emptied.
use Rattle.std.proofs.Common.{◌≡◌, ◌*◌, ◌≤◌, length, sym, ap, subst, arith}
use Rattle.std.specs.Prelude.{vec_len}
use Rattle.xw_net.specs.Room.{row_at}
use Rattle.xw_net.specs.Nets.{IsLeft, IsShaped}
use Rattle.xw_feas.specs.Board.{Board}
use Rattle.xw_net.specs.declared.net.Net.{Net}

pub left_noted : (net new : Net) → new ≡ record net { emptied = new.emptied } → IsLeft net new
left_noted net new same = record {
  base = ap (λ (n : Net). n.base) same;
  chain = ap (λ (n : Net). n.chain) same;
  spare = ap (λ (n : Net). n.spare) same;
  long = ap (λ (n : Net). length n.rows.items) same;
  rows = λ light. omega (arith, ap (λ (n : Net). (row_at n.rows.items light).room) same);
}

pub shaped_noted : (board : Board) (net new : Net) → new ≡ record net { emptied = new.emptied } → IsShaped board net → IsShaped board new
shaped_noted board net new same shaped = record {
  few_cells = shaped.few_cells;
  rows = subst (λ (n : Net). length board.lights ≤ vec_len n.rows) (sym same) shaped.rows;
  entered = subst (λ (n : Net). length board.lights ≤ vec_len n.entered) (sym same) shaped.entered;
  letters = subst (λ (n : Net). vec_len n.letters ≡ length board.open_cells) (sym same) shaped.letters;
  held = subst (λ (n : Net). vec_len n.held ≡ 52 * length board.open_cells) (sym same) shaped.held;
  restart = subst (λ (n : Net). vec_len n.restart ≡ 2 * length board.open_cells) (sym same) shaped.restart;
  pending = subst (λ (n : Net). vec_len n.pending ≡ 2 * length board.open_cells) (sym same) shaped.pending;
  queue = subst (λ (n : Net). length n.queue.marks ≡ length board.lights) (sym same) shaped.queue;
}
