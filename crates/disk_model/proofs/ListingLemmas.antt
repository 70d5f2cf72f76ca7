-- What a listing has: the rest of a path behind a directory, and the paths of a list of files.
use Rattle.std.proofs.Common.{◌≡◌, ◌≢◌, inl, inr, ℕ, ◌≤◌, ◌==◌, length, true, false, not, ◌||◌, T, List, [], ◌∷◌, ◌++◌, cond, map, Option, Some, None, Bor, if◌then◌else◌, bytes_eq, refl, ap, sym, ◌∙◌, subst, arith}
use Rattle.std.specs.Prelude.{MatchOption, filter, Contains, All, codes}
use Rattle.std.specs.List.{list_any, AllByRecursion}
use Rattle.std.specs.List.Sorted.{IsStrictlySortedBy}
use Rattle.std.specs.Ordering.{nat_cmp, is_lt, is_eq, eq_by_cmp}
use Rattle.std.specs.declared.cmp.Ordering.{Ordering}
use Rattle.std.specs.declared.cmp.Ordering.TheVariants.{Less, Equal, Greater}
use Rattle.std.specs.Cmp.Lexicographic.{slice_cmp}
use Rattle.std.specs.FinMap.Entries.{below_all}
use Rattle.std.proofs.lemmas.Bool.{true≢false, or_parts, not-true}
use Rattle.std.proofs.lemmas.Bool.Decides.{Decides-eqb}
use Rattle.std.proofs.lemmas.Cmp.{nat_list_cmp_total, tied_itself}
use Rattle.std.proofs.lemmas.List.Elements.{All-cons, All-head, All-tail}
use Rattle.std.proofs.lemmas.Map.Lookups.{exact_bytes}
use Rattle.std.proofs.lemmas.Slice.Eq.{bytes_eq-Decides}
use Rattle.gopass_base.specs.Text.{Text}
use Rattle.gopass_base.specs.Order.{IsRising}
use Rattle.gopass_base.proofs.ListLemmas.{here, later, first_or}
use Rattle.gopass_base.proofs.OrderLemmas.{both, less}
use Rattle.gopass_base.specs.Parts.{parts}
use Rattle.gopass_base.specs.Paths.{path_in}
use Rattle.disk_model.specs.Files.{Files}
use Rattle.disk_model.specs.Entries.{Entries, files_of, is_rising}
use Rattle.disk_model.specs.Listing.{LiesIn, IsThere, IsListing, Lists, rest_in, has_git, is_plain, lies_in, paths_in, IsAtMost}
use Rattle.disk_model.specs.declared.disk.Listed.{Listed}
use Rattle.disk_model.specs.declared.disk.Listed.TheVariants as listed

-- ---- what stands behind a directory

pub rest_behind : (dir behind : Text) → rest_in dir (dir ++ behind) ≡ rest_in [] behind
rest_behind [] behind = refl
rest_behind (b ∷ dir) behind = ap (λ t. if t then rest_in dir (dir ++ behind) else None) ((Decides-eqb b b).1 refl) ∙ rest_behind dir behind

pub rest_nowhere : (dir path : Text) → ((behind : Text) → path ≢ dir ++ behind) → rest_in dir path ≡ None
rest_nowhere [] path other = absurd (other path refl)
rest_nowhere (b ∷ dir) [] other = refl
rest_nowhere (b ∷ dir) (c ∷ path) other = elim (b == c) as (λ t. b == c ≡ t → (if t then rest_in dir path else None) ≡ None) [
  | true ↦ λ e. rest_nowhere dir path (λ behind is. other behind (λ i. sym ((Decides-eqb b c).0 e) i ∷ is i))
  | false ↦ λ e. refl
] refl

slash_here : (rest : Text) → rest_in [] (47 ∷ rest) ≡ Some rest
slash_here rest = ap (λ t. if t then Some rest else None) ((Decides-eqb 47 47).1 refl)

-- what stands in the path of what lies in the directory
pub rest_at : (dir rest : Text) → rest_in dir (path_in dir rest) ≡ Some rest
rest_at dir rest = rest_behind dir (47 ∷ rest) ∙ slash_here rest

no_slash : (behind : Text) → ((rest : Text) → behind ≢ 47 ∷ rest) → rest_in [] behind ≡ None
no_slash [] other = refl
no_slash (c ∷ behind) other = elim (c == 47) as (λ t. c == 47 ≡ t → (if t then Some behind else None) ≡ None) [
  | true ↦ λ e. absurd (other behind (λ i. (Decides-eqb c 47).0 e i ∷ behind))
  | false ↦ λ e. refl
] refl

pub weaker : {X : Type 0} (r : Option X) (P : Type 0) (Q Q' : X → Type 0) → ((x : X) → Q x → Q' x) → MatchOption r P Q → MatchOption r P Q'
weaker None P Q Q' f h = h
weaker (Some x) P Q Q' f h = f x h

-- the path goes on behind the directory, and then with a slash or without
pub rest_by_slash : (dir path behind : Text) (r : Option (Bor Text)) → path ≡ dir ++ behind
    → MatchOption r ((rest : Text) → behind ≢ 47 ∷ rest) (λ x. behind ≡ 47 ∷ x.now) → MatchOption r (rest_in dir path ≡ None) (λ x. rest_in dir path ≡ Some x.now)
rest_by_slash dir path behind None whole h = ap (rest_in dir) whole ∙ (rest_behind dir behind ∙ no_slash behind h)
rest_by_slash dir path behind (Some x) whole h = ap (rest_in dir) whole ∙ (rest_behind dir behind ∙ (ap (rest_in []) h ∙ slash_here x.now))

exact : (a b : Text) → eq_by_cmp (slice_cmp nat_cmp) a b ≡ true → a ≡ b
exact a b e = exact_bytes a b (equal (slice_cmp nat_cmp a b) e)
  where
    equal : (o : Ordering) → is_eq o ≡ true → o ≡ Equal
    equal Less e = absurd (cc)
    equal Equal e = refl
    equal Greater e = absurd (cc)

-- ---- a path that lies in a directory

pub rest_is : (dir path rest : Text) → rest_in dir path ≡ Some rest → path ≡ dir ++ 47 ∷ rest
rest_is [] [] rest e = absurd (cc)
rest_is [] (c ∷ path) rest e = elim (c == 47) as (λ t. c == 47 ≡ t → (if t then Some path else None) ≡ Some rest → c ∷ path ≡ 47 ∷ rest) [
  | true ↦ λ t e. (let same : path ≡ rest = cc in λ i. (Decides-eqb c 47).0 t i ∷ same i)
  | false ↦ λ t e. absurd (cc)
] refl e
rest_is (b ∷ dir) [] rest e = absurd (cc)
rest_is (b ∷ dir) (c ∷ path) rest e = elim (b == c) as (λ t. b == c ≡ t → (if t then rest_in dir path else None) ≡ Some rest → c ∷ path ≡ b ∷ dir ++ 47 ∷ rest) [
  | true ↦ λ t e. (let same = rest_is dir path rest e in λ i. sym ((Decides-eqb b c).0 t) i ∷ same i)
  | false ↦ λ t e. absurd (cc)
] refl e

other_than_git : (ps : List Text) → list_any (λ part. bytes_eq part (codes ".git")) ps ≡ false → All (λ part. part ≢ codes ".git") ps
other_than_git [] e = λ k d lt. absurd (omega arith)
other_than_git (p ∷ ps) e =
    let tests = or_parts (bytes_eq p (codes ".git")) (list_any (λ part. bytes_eq part (codes ".git")) ps) e in
    All-cons (λ part. part ≢ codes ".git") p ps (λ same. true≢false (sym ((bytes_eq-Decides p (codes ".git")).1 same) ∙ tests.0)) (other_than_git ps tests.1)

no_git_among : (ps : List Text) → All (λ part. part ≢ codes ".git") ps → list_any (λ part. bytes_eq part (codes ".git")) ps ≡ false
no_git_among [] h = refl
no_git_among (p ∷ ps) h = elim (bytes_eq p (codes ".git")) as (λ t. bytes_eq p (codes ".git") ≡ t → t || list_any (λ part. bytes_eq part (codes ".git")) ps ≡ false) [
  | true ↦ λ t. absurd (All-head (λ part. part ≢ codes ".git") p ps h ((bytes_eq-Decides p (codes ".git")).0 t))
  | false ↦ λ t. no_git_among ps (All-tail (λ part. part ≢ codes ".git") p ps h)
] refl

pub lies_by : (dir path : Text) → lies_in dir path ≡ true → LiesIn dir path
lies_by dir path e = by (rest_in dir path) refl e
  where
    by : (r : Option Text) → rest_in dir path ≡ r → is_plain r ≡ true → LiesIn dir path
    by None is e = absurd (cc)
    by (Some rest) is e = record { rest = rest; whole = rest_is dir path rest is; no_git = other_than_git (parts rest) (not-true (has_git rest) e) }

pub lies_tells : (dir path : Text) → LiesIn dir path → lies_in dir path ≡ true
lies_tells dir path h =
    ap is_plain (ap (rest_in dir) h.whole ∙ rest_at dir h.rest) ∙ ap not (no_git_among (parts h.rest) h.no_git)

-- ---- the paths of a list of files

there_here : (e : Text × Text) (es : Entries) → IsThere (files_of (e ∷ es)) e.0
there_here e es = (e.1, ap (λ o. cond (is_eq o) (Some e.1) (files_of es e.0)) (tied_itself nat_list_cmp_total e.0))

there_later : (e : Text × Text) (es : Entries) (path : Text) → IsThere (files_of es) path → IsThere (files_of (e ∷ es)) path
there_later e es path (bytes, is) = elim (eq_by_cmp (slice_cmp nat_cmp) path e.0) as (λ t. (b : Text) × (cond t (Some e.1) (files_of es path) ≡ Some b)) [
  | true ↦ (e.1, refl)
  | false ↦ (bytes, is)
]

listed_are : (dir : Text) (es : Entries) (path : Text) → Contains (paths_in dir es) path → (lies_in dir path ≡ true) × IsThere (files_of es) path
listed_are dir [] path (k, lt, is) = absurd (omega (arith, lt))
listed_are dir (e ∷ es) path has = elim (lies_in dir e.0) as (λ t. lies_in dir e.0 ≡ t → Contains (map (λ (e : Text × Text). e.0) (cond t (e ∷ filter (λ (e : Text × Text). lies_in dir e.0) es) (filter (λ (e : Text × Text). lies_in dir e.0) es))) path
    → (lies_in dir path ≡ true) × IsThere (files_of (e ∷ es)) path) [
      | true ↦ λ t has. elim (first_or e.0 (paths_in dir es) path has) [
        | inl same ↦ (subst (λ (p : Text). lies_in dir p ≡ true) same t, subst (IsThere (files_of (e ∷ es))) same (there_here e es))
        | inr more ↦ (let rest = listed_are dir es path more in (rest.0, there_later e es path rest.1))
      ]
      | false ↦ λ t has. (let rest = listed_are dir es path has in (rest.0, there_later e es path rest.1))
    ] refl has

are_listed : (dir : Text) (es : Entries) (path : Text) → lies_in dir path ≡ true → IsThere (files_of es) path → Contains (paths_in dir es) path
are_listed dir [] path lies (bytes, is) = absurd (cc)
are_listed dir (e ∷ es) path lies (bytes, is) = elim (lies_in dir e.0) as (λ t. lies_in dir e.0 ≡ t → Contains (map (λ (e : Text × Text). e.0) (cond t (e ∷ filter (λ (e : Text × Text). lies_in dir e.0) es) (filter (λ (e : Text × Text). lies_in dir e.0) es))) path) [
  | true ↦ λ t. elim (eq_by_cmp (slice_cmp nat_cmp) path e.0) as (λ b. eq_by_cmp (slice_cmp nat_cmp) path e.0 ≡ b → cond b (Some e.1) (files_of es path) ≡ Some bytes → Contains (e.0 ∷ paths_in dir es) path) [
    | true ↦ λ b i. subst (Contains (e.0 ∷ paths_in dir es)) (sym (exact path e.0 b)) (here e.0 (paths_in dir es))
    | false ↦ λ b i. later e.0 (paths_in dir es) path (are_listed dir es path lies (bytes, i))
  ] refl is
  | false ↦ λ t. elim (eq_by_cmp (slice_cmp nat_cmp) path e.0) as (λ b. eq_by_cmp (slice_cmp nat_cmp) path e.0 ≡ b → cond b (Some e.1) (files_of es path) ≡ Some bytes → Contains (paths_in dir es) path) [
    | true ↦ λ b i. absurd (true≢false (sym lies ∙ (ap (lies_in dir) (exact path e.0 b) ∙ t)))
    | false ↦ λ b i. are_listed dir es path lies (bytes, i)
  ] refl is
] refl

below_listed : (dir x : Text) (es : Entries) → T (below_all (slice_cmp nat_cmp) x es) → AllByRecursion (λ y. slice_cmp nat_cmp x y ≡ Less) (paths_in dir es)
below_listed dir x [] h = tt
below_listed dir x (e ∷ es) h =
    let tests = both (is_lt (slice_cmp nat_cmp x e.0)) (below_all (slice_cmp nat_cmp) x es) h in
    let rest = below_listed dir x es tests.1 in
    elim (lies_in dir e.0) as (λ t. AllByRecursion (λ y. slice_cmp nat_cmp x y ≡ Less) (map (λ (e : Text × Text). e.0) (cond t (e ∷ filter (λ (e : Text × Text). lies_in dir e.0) es) (filter (λ (e : Text × Text). lies_in dir e.0) es)))) [
      | true ↦ (less (slice_cmp nat_cmp x e.0) tests.0, rest)
      | false ↦ rest
    ]

rising_listed : (dir : Text) (es : Entries) → T (is_rising es) → IsRising (paths_in dir es)
unfolding IsStrictlySortedBy
rising_listed dir [] h = tt
rising_listed dir (e ∷ es) h =
    let tests = both (below_all (slice_cmp nat_cmp) e.0 es) (is_rising es) h in
    let rest = rising_listed dir es tests.1 in
    elim (lies_in dir e.0) as (λ t. IsRising (map (λ (e : Text × Text). e.0) (cond t (e ∷ filter (λ (e : Text × Text). lies_in dir e.0) es) (filter (λ (e : Text × Text). lies_in dir e.0) es)))) [
      | true ↦ (below_listed dir e.0 es tests.0, rest)
      | false ↦ rest
    ]

pub listing_of : (dir : Text) (es : Entries) → is_rising es ≡ true → IsListing (files_of es) dir (paths_in dir es)
listing_of dir es up = record {
  rising = rising_listed dir es (subst T (sym up) tt);
  each = λ path. (
    λ has. (let is = listed_are dir es path has in (lies_by dir path is.0, is.1)),
    λ (lies, there). are_listed dir es path (lies_tells dir path lies) there,
  );
}

pub lists_of : (es : Entries) (dir : Text) (max : ℕ) (l : Listed) → is_rising es ≡ true → IsAtMost (paths_in dir es) max l → Lists (files_of es) dir max l
lists_of es dir max (listed.All paths) up (is, few) = subst (IsListing (files_of es) dir) (sym is) (listing_of dir es up)
lists_of es dir max listed.Many up more = (paths_in dir es, listing_of dir es up, more)

-- ---- two listings

not_below_itself : (a : Text) → slice_cmp nat_cmp a a ≡ Less → ⊥
not_below_itself a h = (let e : Equal ≡ Less = sym (tied_itself nat_list_cmp_total a) ∙ h in cc)

each_above : (x : Text) (xs : List Text) → AllByRecursion (λ y. slice_cmp nat_cmp x y ≡ Less) xs → (q : Text) → Contains xs q → slice_cmp nat_cmp x q ≡ Less
each_above x [] all q (k, lt, is) = absurd (omega (arith, lt))
each_above x (y ∷ xs) all q has = elim (first_or y xs q has) [
  | inl same ↦ subst (λ (t : Text). slice_cmp nat_cmp x t ≡ Less) same all.0
  | inr more ↦ each_above x xs all.1 q more
]

not_itself : (x : Text) (xs : List Text) → AllByRecursion (λ y. slice_cmp nat_cmp x y ≡ Less) xs → ¬ Contains xs x
not_itself x xs all has = not_below_itself x (each_above x xs all x has)

-- of two rising lists, one that has each text of the other is as long at least
pub as_long : (xs ys : List Text) → IsRising xs → IsRising ys → ((q : Text) → Contains xs q → Contains ys q) → length xs ≤ length ys
unfolding IsStrictlySortedBy
as_long [] ys up upper has = omega arith
as_long (x ∷ xs) [] up upper has = (let (k, lt, is) = has x (0, omega arith, refl) in absurd (omega (arith, lt)))
as_long (x ∷ xs) (y ∷ ys) up upper has = elim (first_or y ys x (has x (0, omega arith, refl))) [
  | inl same ↦ (let more = as_long xs ys up.1 upper.1 (λ q there. elim (first_or y ys q (has q (later x xs q there))) [
    | inl again ↦ absurd (not_itself x xs up.0 (subst (Contains xs) (sym again ∙ same) there))
    | inr behind ↦ behind
  ]) in omega (arith, more))
  | inr inside ↦ (let more = as_long (x ∷ xs) ys up upper.1 (λ q there. elim (first_or y ys q (has q there)) [
    | inl again ↦ absurd (elim (first_or x xs q there) [
      | inl same ↦ not_itself y ys upper.0 (subst (Contains ys) (same ∙ sym again) inside)
      | inr after ↦ not_below_itself q (nat_list_cmp_total.trans q x q (subst (λ (t : Text). slice_cmp nat_cmp t x ≡ Less) again (each_above y ys upper.0 x inside)) (each_above x xs up.0 q after))
    ])
    | inr behind ↦ behind
  ]) in omega (arith, more))
]

-- two listings of the same files are as long
pub listing_long : (files : Files) (dir : Text) (a b : List Text) → IsListing files dir a → IsListing files dir b → length a ≤ length b
listing_long files dir a b h k = as_long a b h.rising k.rising (λ q has. (k.each q).1 ((h.each q).0 has))
