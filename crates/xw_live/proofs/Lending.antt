-- A method of a trait may promise more of what it lends than the trait does; these lemmas give the trait's promise from the method's.
use base.Fml.{GName}
use base.Logic.{SProp, ent, emp, ex_i, ex_e}
use base.Stored.{Gv}
use borrow.Fn.Refines.{Gives, Turns, by_parts}
use contract.Monad.{fact_i}
use denote.Follow.{follows_by, such_by}
use denote.Triple.Impl.{to_emp}
use mathlib.Core.List.{[]}
use mathlib.Core.Option.{Option}
use seplogic.Ra.Ura.{Ura}
use types.Logic.{Logic, sem}

module _ {M : Type 1} {𝓤 : Ura M} (𝓛 : Logic 𝓤) (D E : Type 0) (c : D → Gv) (d : E → Gv) (γ : GName) (m : Option GName) where
  -- a stronger relation between the borrowed value and what it ends as gives a weaker one
  pub such_by_looser : {P Q : E → D → Type 0} {P₀ Q₀ : D → Type 0} → ((w : E) (n : D) → P w n → Q w n) → ((n : D) → P₀ n → Q₀ n)
      → ent 𝓤 (sem 𝓛 (such_by D E c d γ m P P₀)) (sem 𝓛 (such_by D E c d γ m Q Q₀))
  unfolding such_by
  such_by_looser {P} {Q} {P₀} {Q₀} f f₀ = ex_e 𝓤 _ (λ s.
      ex_i 𝓤 (λ (t : (p : (E → D) × D) × ((w : E) → Q w (p.0 w)) × Q₀ p.1). sem 𝓛 (follows_by D E c d γ m t.0.0 t.0.1))
      (s.0, (λ w. f w (s.0.0 w) (s.1 w)), f₀ s.0.1 s.2))

-- a clause of the method gives the trait's clause where the first implies the second
pub clause_gives : {M : Type 1} (𝓤 : Ura M) (R X : Type 0) (own trait : R → X → SProp 𝓤) → ((r : R) (e : X) → ent 𝓤 (own r e) (trait r e))
    → Gives 𝓤 (emp 𝓤) (Unit {0}) (λ g. emp 𝓤) (λ g. Turns 𝓤 R X own trait)
clause_gives 𝓤 R X own trait h =
    by_parts 𝓤 [] [] (emp 𝓤) (emp 𝓤) R X (λ r e. []) (λ r e. []) own trait (fact_i 𝓤 (Unit {0}) (emp 𝓤) tt) (λ asked. to_emp 𝓤 (emp 𝓤)) (λ r e. fact_i 𝓤 (Unit {0}) (own r e) tt) (λ r e post. h r e) (λ pre. tt) (λ pre r e told. tt)
