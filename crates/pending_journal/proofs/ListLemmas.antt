-- A listing without the vault's own files.
use Rattle.std.proofs.Common.{◌≡◌, inl, inr, ℕ, Bool, true, false, not, List, [], ◌∷◌, cond, Some, None, if◌then◌else◌, refl, ap, sym, ◌∙◌, subst, arith}
use Rattle.std.specs.Prelude.{filter, Contains}
use Rattle.std.specs.Ordering.{nat_cmp}
use Rattle.std.specs.Cmp.Lexicographic.{slice_cmp}
use Rattle.std.proofs.lemmas.Bool.{true≢false}
use Rattle.std.proofs.lemmas.List.Kept.{IsStrictlySortedBy-filter}
use Rattle.gopass_base.specs.Text.{Text}
use Rattle.gopass_base.proofs.ListLemmas.{here, later, first_or}
use Rattle.disk_model.specs.Files.{Files}
use Rattle.disk_model.specs.Listing.{IsThere, IsListing, Lists, IsAtMost}
use Rattle.disk_model.specs.declared.disk.Listed.{Listed}
use Rattle.disk_model.specs.declared.disk.Listed.TheVariants as listed
use Rattle.pending_journal.specs.Service.{is_service, without_service, others}

kept_has : (p : Text → Bool) (xs : List Text) (q : Text) → Contains (filter p xs) q → (p q ≡ true) × Contains xs q
kept_has p [] q (k, lt, is) = absurd (omega (arith, lt))
kept_has p (x ∷ xs) q has = elim (p x) as (λ t. p x ≡ t → Contains (cond t (x ∷ filter p xs) (filter p xs)) q → (p q ≡ true) × Contains (x ∷ xs) q) [
  | true ↦ λ t has. elim (first_or x (filter p xs) q has) [
    | inl same ↦ (subst (λ (y : Text). p y ≡ true) same t, subst (Contains (x ∷ xs)) same (here x xs))
    | inr more ↦ (let rest = kept_has p xs q more in (rest.0, later x xs q rest.1))
  ]
  | false ↦ λ t has. (let rest = kept_has p xs q has in (rest.0, later x xs q rest.1))
] refl has

has_kept : (p : Text → Bool) (xs : List Text) (q : Text) → p q ≡ true → Contains xs q → Contains (filter p xs) q
has_kept p [] q on (k, lt, is) = absurd (omega (arith, lt))
has_kept p (x ∷ xs) q on has = elim (p x) as (λ t. p x ≡ t → Contains (cond t (x ∷ filter p xs) (filter p xs)) q) [
  | true ↦ λ t. elim (first_or x xs q has) [
    | inl same ↦ subst (Contains (x ∷ filter p xs)) same (here x (filter p xs))
    | inr more ↦ later x (filter p xs) q (has_kept p xs q on more)
  ]
  | false ↦ λ t. elim (first_or x xs q has) [
    | inl same ↦ absurd (true≢false (sym (ap p same ∙ on) ∙ t))
    | inr more ↦ has_kept p xs q on more
  ]
] refl

-- the files but those for whose paths the test is true
abbrev pub hiding : (Text → Bool) → Files → Files
hiding test files path = if test path then None else files path

there_hiding : (test : Text → Bool) (files : Files) (path : Text) → IsThere (hiding test files) path → (not (test path) ≡ true) × IsThere files path
there_hiding test files path (bytes, is) = elim (test path) as (λ t. (if t then None else files path) ≡ Some bytes → (not t ≡ true) × IsThere files path) [
  | true ↦ λ is. absurd (cc)
  | false ↦ λ is. (refl, (bytes, is))
] is

there_shown : (test : Text → Bool) (files : Files) (path : Text) → not (test path) ≡ true → IsThere files path → IsThere (hiding test files) path
there_shown test files path other (bytes, is) = elim (test path) as (λ t. not t ≡ true → (b : Text) × ((if t then None else files path) ≡ Some b)) [
  | true ↦ λ other. absurd (cc)
  | false ↦ λ other. (bytes, is)
] other

pub listing_hiding : (test : Text → Bool) (files : Files) (dir : Text) (paths : List Text) → IsListing files dir paths → IsListing (hiding test files) dir (filter (λ path. not (test path)) paths)
listing_hiding test files dir paths h = record {
  rising = IsStrictlySortedBy-filter (slice_cmp nat_cmp) (λ path. not (test path)) paths h.rising;
  each = λ path. (
    λ has. (let kept = kept_has (λ path. not (test path)) paths path has in let was = (h.each path).0 kept.1 in (was.0, there_shown test files path kept.0 was.1)),
    λ (lies, there). (let was = there_hiding test files path there in has_kept (λ path. not (test path)) paths path was.0 ((h.each path).1 (lies, was.1))),
  );
}

pub listing_without : (root : Text) (files : Files) (dir : Text) (paths : List Text) → IsListing files dir paths → IsListing (without_service root files) dir (others root paths)
listing_without root files dir paths h = listing_hiding (is_service root) files dir paths h

-- all of a listing but them, where they are at most as many as were asked for
pub lists_at_most : (root : Text) (files : Files) (dir : Text) (max : ℕ) (paths left : List Text) (l : Listed) → IsListing files dir paths → left ≡ others root paths → IsAtMost left max l → Lists (without_service root files) dir max l
lists_at_most root files dir max paths left (listed.All given) h is (same, few) = subst (IsListing (without_service root files) dir) (sym (same ∙ is)) (listing_without root files dir paths h)
lists_at_most root files dir max paths left listed.Many h is more = (left, subst (IsListing (without_service root files) dir) (sym is) (listing_without root files dir paths h), more)
