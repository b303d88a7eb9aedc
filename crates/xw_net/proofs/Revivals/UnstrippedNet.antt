-- A net to which words and letters came back, and from which stripping can start.
use Rattle.std.proofs.Common.{◌≡◌, ℕ, ◌≤◌, Bool, false, [], sym, ap, ◌∙◌, subst, arith}
use Rattle.std.specs.Prelude.{vec_items}
use Rattle.xw_words.specs.Dictionary.{Dictionary, known_words}
use Rattle.xw_feas.specs.Board.{Board}
use Rattle.xw_net.specs.Marks.{IsHolding, IsReady}
use Rattle.xw_net.specs.Room.{row_at}
use Rattle.xw_net.specs.Nets.{marks_of, pending_in, word_stands, letter_stands, held_in, restart_in, queued_in, IsShaped, IsChained, HasBits}
use Rattle.xw_net.specs.Worklist.{is_marked}
use Rattle.xw_net.specs.Brought.{HasBase, IsBase, IsBrought}
use Rattle.xw_net.specs.Filled.{IsWholeNet, IsUnstripped}
use Rattle.xw_net.specs.declared.net.Net.{Net}
use Rattle.xw_net.proofs.Stripping.HeldWords.{same_holding}

-- `old` is the net before words and letters come back, `back` the one after, and `new` is `back`
-- with no light marked
module _ (board : Board) (dictionary : Dictionary) (old back new : Net) where
  pub brought_unstripped : IsWholeNet board (known_words dictionary) old → IsBase board dictionary old.base.items
      → IsShaped board new → IsChained board new → HasBits board (known_words dictionary) back → back.base ≡ old.base → new.chain.lights ≡ []
      → ((light : ℕ) → (row_at old.rows.items light).room ≤ (row_at back.rows.items light).room)
      → (chain : ℕ → Bool) → IsBrought board dictionary (marks_of old) (marks_of back) chain
      → IsReady board dictionary (marks_of back) → IsHolding board dictionary (marks_of old) → ((slot letter : ℕ) → pending_in old slot letter ≡ false)
      → new ≡ record back { chain = new.chain } → ((light : ℕ) → is_marked new.chain.marks light ≡ false)
      → IsUnstripped board dictionary new
  unfolding word_stands letter_stands held_in restart_in pending_in queued_in
  brought_unstripped whole is_base shaped chained bits base taken room chain brought ready holding pending same marked =
      let new_base = ap (λ (net : Net). vec_items net.base) same ∙ ap (λ v. vec_items v) base in
      record {
        whole = record {
          shaped = shaped;
          chained = chained;
          bits = subst (HasBits board (known_words dictionary)) (sym same) bits;
          base = subst (HasBase board (known_words dictionary)) (sym new_base) whole.base;
          room = λ light lt. omega (arith, whole.room light lt, room light, ap (λ (net : Net). (row_at net.rows.items light).room) same);
          base_room = λ light lt. omega (arith, whole.base_room light lt, ap (λ rows. (row_at rows light).room) new_base);
        };
        is_base = subst (IsBase board dictionary) (sym new_base) is_base;
        ready = subst (λ (net : Net). IsReady board dictionary (marks_of net)) (sym same) ready;
        holding = subst (λ (net : Net). IsHolding board dictionary (marks_of net)) (sym same) (same_holding board dictionary (marks_of old) (marks_of back) brought.held holding);
        pending = λ slot letter. ap (λ (net : Net). pending_in net slot letter) same ∙ brought.pending slot letter ∙ pending slot letter;
        taken = taken;
        marked = marked;
      }
