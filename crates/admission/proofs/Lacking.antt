-- The first class that must have a bound and has none, task by task.
use Rattle.std.proofs.Common.{◌≡◌, ℕ, suc, ◌+◌, ◌<◌, Bool, true, false, cond, ◌⊎◌, List, length, Some, None, Option, sym, refl, ap, ◌∙◌, inl, inr, add-one, arith}
use Rattle.std.specs.Option.{option_map, option_or}
use Rattle.std.specs.Bool.{then_some}
use Rattle.denial.specs.declared.Rule.TheVariants.{Unbounded}
use Rattle.denial.specs.Numbers.{denied}
use Rattle.find.specs.First.{first, first_pair, Searched, NoPair}
use Rattle.find.proofs.Firsts.{first_says, pair_is}
use Rattle.group.specs.Task.{Task, at}
use Rattle.admission.specs.Start.{lacking, unbounded_fault}

-- a class of task k, counted from 0
abbrev pub lacks : List Task → (k j : ℕ) → Bool
lacks ts k j = lacking ts k (suc j)

abbrev pub class_count : List Task → ℕ → ℕ
class_count ts k = length (at ts k).classes

-- before the first class
pub lacks_none : (ts : List Task) (k : ℕ) → None ≡ option_map suc (first (lacks ts k) 0)
unfolding first
lacks_none ts k = refl

-- one class more
pub lacks_more : (ts : List Task) (k i : ℕ) (found next : Option ℕ) (b : Bool) → found ≡ option_map suc (first (lacks ts k) i) → b ≡ lacking ts k (i + 1)
    → next ≡ option_or found (then_some b (i + 1)) → next ≡ option_map suc (first (lacks ts k) (i + 1))
unfolding first
lacks_more ts k i found next b h e n =
    n ∙ ap (λ x. option_or x (then_some b (i + 1))) h ∙ ap (λ x. option_or (option_map suc (first (lacks ts k) i)) (then_some x (i + 1))) e
    ∙ step (first (lacks ts k) i) (i + 1) (add-one i) ∙ ap (λ n. option_map suc (first (lacks ts k) n)) (sym (add-one i))
  where
    last : (b : Bool) → option_or None (then_some b (suc i)) ≡ option_map suc (cond b (Some i) None)
    last true = refl
    last false = refl

    step : (o : Option ℕ) (n : ℕ) → n ≡ suc i → option_or (option_map suc o) (then_some (lacking ts k n) n) ≡ option_map suc (option_or o (cond (lacks ts k i) (Some i) None))
    step (Some x) n q = refl
    step None n q = ap (λ n. option_or None (then_some (lacking ts k n) n)) q ∙ last (lacks ts k i)

-- no class of a task
pub none_lacks : (ts : List Task) (k : ℕ) → None ≡ option_map suc (first (lacks ts k) (class_count ts k)) → (j : ℕ) → j < class_count ts k → lacks ts k j ≡ false
none_lacks ts k e = at_found (first (lacks ts k) (class_count ts k)) (first_says (lacks ts k) (class_count ts k)) e
  where
    at_found : (o : Option ℕ) → Searched (lacks ts k) (class_count ts k) o → None ≡ option_map suc o → (j : ℕ) → j < class_count ts k → lacks ts k j ≡ false
    at_found None s e = s
    at_found (Some i) s e = absurd (let z : ◌≡◌ {A = ℕ} 0 1 = cc in omega arith)

-- no class of one task more
pub none_more : (ts : List Task) (k : ℕ) → NoPair (lacks ts) k (class_count ts) → ((j : ℕ) → j < class_count ts k → lacks ts k j ≡ false)
    → NoPair (lacks ts) (k + 1) (class_count ts)
none_more ts k h n i j l m = elim (last i l) [ inl q ↦ here q | inr q ↦ h i j q m ]
  where
    last : (i : ℕ) → i < k + 1 → (i ≡ k) ⊎ (i < k)
    last i l = grind arith

    here : i ≡ k → lacks ts i j ≡ false
    here q = ap (λ x. lacks ts x j) q ∙ n j (rw q at m)

-- the first one
pub first_lacking : (ts : List Task) (k class : ℕ) → k < length ts → NoPair (lacks ts) k (class_count ts)
    → Some class ≡ option_map suc (first (lacks ts k) (class_count ts k)) → Some (denied Unbounded k class) ≡ unbounded_fault ts
first_lacking ts k class l h e = at_found (first (lacks ts k) (class_count ts k)) (first_says (lacks ts k) (class_count ts k)) e
  where
    at_found : (o : Option ℕ) → Searched (lacks ts k) (class_count ts k) o → Some class ≡ option_map suc o → Some (denied Unbounded k class) ≡ unbounded_fault ts
    at_found None s e = absurd (let z : ◌≡◌ {A = ℕ} 0 1 = cc in omega arith)
    at_found (Some j) s e =
        let q : class ≡ suc j = cc in
        let p : first_pair (lacks ts) (length ts) (class_count ts) ≡ Some (k, j) = pair_is (lacks ts) (length ts) (class_count ts) (Some (k, j)) (l, h, s) in
        ap (λ x. Some (denied Unbounded k x)) q ∙ sym (ap (option_map (λ p. denied Unbounded p.0 (suc p.1))) p)

-- there is none
pub no_lacking : (ts : List Task) → NoPair (lacks ts) (length ts) (class_count ts) → None ≡ unbounded_fault ts
no_lacking ts h = sym (ap (option_map (λ p. denied Unbounded p.0 (suc p.1))) (pair_is (lacks ts) (length ts) (class_count ts) None h))
