-- The laws of the first-then kind, from the laws of its parts alone.
use Rattle.std.specs.Prelude.{◌≡◌, ℕ, Bool, true, false, cond, refl}
use Rattle.std.proofs.Common.{sym, ap, ◌∙◌}
use Rattle.std.proofs.lemmas.Bool.{and_parts, and_from, both_ways}
use Rattle.std.specs.Cmp.{IsTotalOrder}
use Rattle.std.specs.declared.cmp.Ordering.{Ordering}
use Rattle.std.specs.declared.cmp.Ordering.TheVariants as orderings
use Rattle.std.specs.Ordering.{is_lt, ordering_then, ordering_reverse}
use Rattle.lengths.specs.Figures.{Figures, Laws, Sum, none, one, both, Compared, below, equal, above, Less}
use Rattle.lengths.specs.declared.pairs.FirstThen.{FirstThen}
use Rattle.lengths.specs.Pairs.{pair, first_then}

pair_path : {A B : Type 0} {a c : A} {b d : B} → a ≡ c → b ≡ d → pair a b ≡ pair c d
pair_path p q = λ i. record { first = p i; second = q i }

module _ {A B : Type 0} (a : Figures A) (b : Figures B) where
  -- a sum of at most n pairs is a sum of at most n figures in each part
  firsts : {n : ℕ} {x : FirstThen A B} → Sum (first_then a b) n x → Sum a n x.first
  firsts none = none
  firsts (one {n} {x} h e) = one h (and_parts (a.entry x.first) (b.entry x.second) e).0
  firsts (both h p q) = both h (firsts p) (firsts q)

  seconds : {n : ℕ} {x : FirstThen A B} → Sum (first_then a b) n x → Sum b n x.second
  seconds none = none
  seconds (one {n} {x} h e) = one h (and_parts (a.entry x.first) (b.entry x.second) e).1
  seconds (both h p q) = both h (seconds p) (seconds q)

  -- the order, by how the first parts compare
  by_first : (x y : FirstThen A B) → Less a x.first y.first → Less (first_then a b) x y
  by_first x y l = simp l

  by_second : (x y : FirstThen A B) → a.less x.first y.first ≡ false → a.less y.first x.first ≡ false → (first_then a b).less x y ≡ b.less x.second y.second
  by_second x y l m = simp (l, m)

  not_first : (x y : FirstThen A B) → a.less x.first y.first ≡ false → Less a y.first x.first → (first_then a b).less x y ≡ false
  not_first x y l m = simp (l, m)

module _ {A B : Type 0} {a : Figures A} {b : Figures B} (la : Laws a) (lb : Laws b) where
  compared : (x y : FirstThen A B) → Compared (first_then a b) x y
  compared x y = elim (la.compares x.first y.first) [
    | below l n m ↦ below (by_first a b x y l) (λ e. n (ap (λ (p : FirstThen A B). p.first) e)) (not_first a b y x m l)
    | above l n m ↦ above (not_first a b x y l m) (λ e. n (ap (λ (p : FirstThen A B). p.first) e)) (by_first a b y x m)
    | equal l e m ↦ elim (lb.compares x.second y.second) [
      | below i n j ↦ below (by_second a b x y l m ∙ i) (λ f. n (ap (λ (p : FirstThen A B). p.second) f)) (by_second a b y x m l ∙ j)
      | equal i f j ↦ equal (by_second a b x y l m ∙ i) (pair_path e f) (by_second a b y x m l ∙ j)
      | above i n j ↦ above (by_second a b x y l m ∙ i) (λ f. n (ap (λ (p : FirstThen A B). p.second) f)) (by_second a b y x m l ∙ j)
    ]
  ]

  -- x before y before z, by how the first parts of x and y, and of y and z, compare
  through : (x y z : FirstThen A B) → Less (first_then a b) x y → Less (first_then a b) y z → Less (first_then a b) x z
  through x y z t u = elim (la.compares x.first y.first) [
    | above l n m ↦ absurd (both_ways ((first_then a b).less x y) (not_first a b x y l m) t)
    | below l n m ↦ elim (la.compares y.first z.first) [
      | above i k j ↦ absurd (both_ways ((first_then a b).less y z) (not_first a b y z i j) u)
      | below i k j ↦ by_first a b x z (la.trans l i)
      | equal i e j ↦ by_first a b x z (ap (a.less x.first) (sym e) ∙ l)
    ]
    | equal l e m ↦ elim (la.compares y.first z.first) [
      | above i k j ↦ absurd (both_ways ((first_then a b).less y z) (not_first a b y z i j) u)
      | below i k j ↦ by_first a b x z (ap (λ (v : A). a.less v z.first) e ∙ i)
      | equal i f j ↦
          let p : a.less x.first z.first ≡ false = ap (λ (v : A). a.less v z.first) e ∙ i in
          let q : a.less z.first x.first ≡ false = ap (a.less z.first) e ∙ j in
          by_second a b x z p q ∙ lb.trans (sym (by_second a b x y l m) ∙ t) (sym (by_second a b y z i j) ∙ u)
    ]
  ]

  not_less_zero : (x : FirstThen A B) → (first_then a b).less x (first_then a b).zero ≡ false
  not_less_zero x = elim (la.compares x.first a.zero) [
    | below l n m ↦ absurd (both_ways (a.less x.first a.zero) (la.least x.first) l)
    | equal l e m ↦ by_second a b x (first_then a b).zero l m ∙ lb.least x.second
    | above l n m ↦ not_first a b x (first_then a b).zero l m
  ]

  pub pair_laws : Laws (first_then a b)
  pair_laws = record {
    zero_entry = and_from (a.entry a.zero) (b.entry b.zero) la.zero_entry lb.zero_entry;
    neutral = λ n h s. pair_path (la.neutral n h (firsts a b s)) (lb.neutral n h (seconds a b s));
    comm = λ m n h p q. pair_path (la.comm m n h (firsts a b p) (firsts a b q)) (lb.comm m n h (seconds a b p) (seconds a b q));
    assoc = λ l m n h p q r. pair_path (la.assoc l m n h (firsts a b p) (firsts a b q) (firsts a b r)) (lb.assoc l m n h (seconds a b p) (seconds a b q) (seconds a b r));
    compares = compared;
    trans = λ {x} {y} {z} t u. through x y z t u;
    least = not_less_zero;
    shift = λ {x} {y} {z} l m n h g p q r.
        let e = la.shift l m n h g (firsts a b p) (firsts a b q) (firsts a b r) in
        let f = la.shift m l n g h (firsts a b q) (firsts a b p) (firsts a b r) in
        let i = lb.shift l m n h g (seconds a b p) (seconds a b q) (seconds a b r) in
        simp (e, f, i);
  }

-- the order of two parts, one after the other, by whether the first comes before, or the other way round
then_lt : (r o : Ordering) → is_lt (ordering_then r o) ≡ cond (is_lt r) true (cond (is_lt (ordering_reverse r)) false (is_lt o))
then_lt orderings.Less o = refl
then_lt orderings.Equal o = refl
then_lt orderings.Greater o = refl

-- the order of pairs, first parts first, is that of the first-then kind, where the orders of the parts are those of their kinds
module _ {A B : Type 0} (a : Figures A) (b : Figures B) (order_a : A → A → Ordering) (order_b : B → B → Ordering) (total : IsTotalOrder order_a) where
  pub pair_ordered : ((x y : A) → is_lt (order_a x y) ≡ a.less x y) → ((x y : B) → is_lt (order_b x y) ≡ b.less x y)
      → (x y : FirstThen A B) → is_lt (ordering_then (order_a x.first y.first) (order_b x.second y.second)) ≡ (first_then a b).less x y
  pair_ordered f g x y =
      then_lt (order_a x.first y.first) (order_b x.second y.second)
      ∙ ap (λ (l : Bool). cond l true (cond (is_lt (ordering_reverse (order_a x.first y.first))) false (is_lt (order_b x.second y.second)))) (f x.first y.first)
      ∙ ap (λ (l : Bool). cond (a.less x.first y.first) true (cond l false (is_lt (order_b x.second y.second)))) (ap is_lt (sym (total.antisymm y.first x.first)) ∙ f y.first x.first)
      ∙ ap (λ (l : Bool). cond (a.less x.first y.first) true (cond (a.less y.first x.first) false l)) (g x.second y.second)
