-- Lists that were sorted, with each item once.
use Rattle.std.proofs.Common.{◌≡◌, ◌⊎◌, inl, inr, ℕ, List, length, get_or, Result, Ok, Err, refl, sym, ◌∙◌, subst, arith}
use Rattle.std.specs.Prelude.{◌↔◌, Contains, IsTrue, is_ok}
use Rattle.std.specs.List.Sorted.{IsBinarySearchResult, IsSearchInRange}
use Rattle.std.specs.Ordering.{nat_cmp}
use Rattle.std.specs.declared.cmp.Ordering.{Ordering}
use Rattle.std.specs.declared.cmp.Ordering.TheVariants.{Less, Equal, Greater}
use Rattle.std.proofs.lemmas.Bool.{cases_lt}
use Rattle.std.proofs.lemmas.Cmp.{nat_list_cmp_total, tied_itself}
use Rattle.std.proofs.lemmas.List.Sorted.{searchable_from_sorted}
use Rattle.std.proofs.lemmas.Map.Lookups.{exact_bytes}
use Rattle.std.specs.Cmp.Lexicographic.{slice_cmp}
use Rattle.gopass_base.specs.Text.{Text}
use Rattle.gopass_base.specs.Order.{IsRising, IsSetOf}
use Rattle.gopass_base.proofs.OrderLemmas.{sorted}
use Rattle.mount_table.specs.declared.mounts.Row.{Row}
use Rattle.disk_model.specs.Files.{Files}
use Rattle.store_state.specs.declared.kind.Kind.{Kind}
use Rattle.store_state.specs.declared.seen.Seen.{Seen}
use Rattle.store_state.specs.Order.{IsOrdered}
use Rattle.store_state.specs.Survey.{IsOfFiles, IsSeen}

of_files_in_order : (Gives : Kind → Text → Text → Type 0) (root : Text) (files : Files) (mounts : List Row) (n : ℕ) (list now : List Text) → IsOfFiles Gives root files mounts n list → IsSetOf now list → IsOfFiles Gives root files mounts n now
of_files_in_order Gives root files mounts n list now of order x = (λ has. (of x).0 ((order.same x).0 has), λ there. (order.same x).1 ((of x).1 there))

pub seen_in_order : (root : Text) (files : Files) (mounts : List Row) (n : ℕ) (seen now : Seen) → IsSeen root files mounts n seen → IsOrdered seen now → IsSeen root files mounts n now
seen_in_order root files mounts n seen now is order = record {
  names = of_files_in_order _ root files mounts n seen.names.items now.names.items is.names order.names;
  rules = of_files_in_order _ root files mounts n seen.rules.items now.rules.items is.rules order.rules;
  templates = of_files_in_order _ root files mounts n seen.templates.items now.templates.items is.templates order.templates;
  strange = of_files_in_order _ root files mounts n seen.strange.items now.strange.items is.strange order.strange;
  shadowed = of_files_in_order _ root files mounts n seen.shadowed.items now.shadowed.items is.shadowed order.shadowed;
}

-- ---- a search of a rising list

not_tied : (o : Ordering) → o ≡ Equal → (o ≡ Less) ⊎ (o ≡ Greater) → ⊥
not_tied o e (inl less) = (let same : Equal ≡ Less = sym e ∙ less in cc)
not_tied o e (inr greater) = (let same : Equal ≡ Greater = sym e ∙ greater in cc)

pub found_by_search : (names : List Text) (name : Text) (r : Result ℕ ℕ) → IsRising names → IsSearchInRange r (length names) → IsBinarySearchResult (λ (y : Text). slice_cmp nat_cmp y name) names r → IsTrue (is_ok r) ↔ Contains names name
found_by_search names name (Ok i) up bound at = (λ t. (i, bound, exact_bytes (get_or names i name) name (at name)), λ has. refl)
found_by_search names name (Err i) up bound at =
    let parts = at (searchable_from_sorted nat_list_cmp_total (λ (f : Text). f) names name (sorted names up)) in (
      λ t. absurd (cc),
      λ (k, lt, is). absurd (not_tied (slice_cmp nat_cmp (get_or names k name) name) (subst (λ (t : Text). slice_cmp nat_cmp t name ≡ Equal) (sym is) (tied_itself nat_list_cmp_total name)) (elim (cases_lt k i) [
        | inl below ↦ inl (parts.0 k name (omega arith) below)
        | inr behind ↦ inr (parts.1 k name behind lt)
      ])),
    )
