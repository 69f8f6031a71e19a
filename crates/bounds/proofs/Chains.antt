-- What the chains over a task's classes and a group's tasks give.
use Rattle.std.proofs.Common.{◌≡◌, ℕ, zero, suc, ◌+◌, max, Bool, true, false, cond, List, [], ◌∷◌, map, length, nat_le, unwrap_or, sym, refl, ap, ◌∙◌, add-one, arith}
use Rattle.std.specs.List.{range_with_len, filter, fold, reduce, sum as list_sum}
use Rattle.std.proofs.lemmas.List.FromFn.{fill_by_all, sum_by-map-range_with_len_more}
use Rattle.group.specs.declared.meaning.Terms.{Terms}
use Rattle.group.specs.Task.{Task, terms_of, no_terms}
use Rattle.group.specs.Ranges.{max_found}
use Rattle.bounds.specs.Bound.{largest, sum}
use Rattle.bounds.proofs.Grows.{terms_next}

-- the terms of all classes, from 1 on
pub terms_listed : (t : Task) → map (terms_of t) (range_with_len 1 (length t.classes)) ≡ t.classes
terms_listed t = sym (fill_by_all (λ k. terms_of t (k + 1)) t.classes (length t.classes) no_terms refl (λ k l. sym (terms_next t k)) ∙ shifted (length t.classes) 0)
  where
    shifted : (n a : ℕ) → map (λ k. terms_of t (k + 1)) (range_with_len a n) ≡ map (terms_of t) (range_with_len (a + 1) n)
    shifted zero a = refl
    shifted (suc n) a = ap (λ l. terms_of t (a + 1) ∷ l) (shifted n (a + 1))

-- the largest of some numbers, with one before them
fold_max : (x : ℕ) (xs : List ℕ) → fold max x xs ≡ max x (fold max 0 xs)
fold_max x [] = omega arith
fold_max x (y ∷ ys) = both x y (fold max (max x y) ys) (fold max (max 0 y) ys) (fold max 0 ys) (fold_max (max x y) ys) (fold_max (max 0 y) ys)
  where
    both : (x y a b m : ℕ) → a ≡ max (max x y) m → b ≡ max (max 0 y) m → a ≡ max x b
    both x y a b m p q = grind arith

-- the budgets of the classes ranked p or higher
abbrev pub budgets : ℕ → List Terms → List ℕ
budgets p cs = map (λ c. c.budget) (filter (λ c. nat_le p c.rank) cs)

largest_folded : (p : ℕ) (cs : List Terms) → fold max 0 (budgets p cs) ≡ largest p cs
largest_folded p [] = refl
largest_folded p (c ∷ cs) = at_test (nat_le p c.rank) (largest_folded p cs)
  where
    at_test : (b : Bool) → fold max 0 (budgets p cs) ≡ largest p cs
        → fold max 0 (map (λ c. c.budget) (cond b (c ∷ filter (λ c. nat_le p c.rank) cs) (filter (λ c. nat_le p c.rank) cs))) ≡ max (cond b c.budget 0) (largest p cs)
    at_test true h = omega (arith, fold_max (max 0 c.budget) (budgets p cs))
    at_test false h = omega arith

-- the largest of them, as the chain finds it
pub largest_found : (p : ℕ) (cs : List Terms) → unwrap_or (reduce max (budgets p cs)) 0 ≡ largest p cs
largest_found p cs = max_found (budgets p cs) ∙ largest_folded p cs

-- the sum over the tasks from 0 on, as the chain adds it
pub sum_listed : (n : ℕ) (f : ℕ → ℕ) → list_sum (map f (range_with_len 0 n)) ≡ sum n f
sum_listed zero f = refl
sum_listed (suc n) f =
    ap (λ k. list_sum (map f (range_with_len 0 k))) (sym (add-one n)) ∙ sum_by-map-range_with_len_more (λ x. x) f 0 n n (omega arith) ∙ ap (λ x. x + f n) (sum_listed n f)
