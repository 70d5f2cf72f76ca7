-- One text's parts are how another's begin exactly where its bytes are, with nothing or a slash behind them.
use Rattle.std.proofs.Common.{◌≡◌, ◌≢◌, ◌⊎◌, inl, inr, ◌↔◌, List, [], ◌∷◌, ◌++◌, length, Bool, true, false, IsTrue, refl, ap, sym, ◌∙◌, arith, length-append}
use Rattle.std.specs.List.{join_with_byte}
use Rattle.std.proofs.lemmas.List.{append-nil, append_cancel_left}
use Rattle.std.proofs.lemmas.List.Splits.{join_with_byte-slice_split}
use Rattle.gopass_base.specs.Text.{Text}
use Rattle.gopass_base.specs.Parts.{parts}
use Rattle.mount_table.specs.Prefixes.{folder_parts, IsPrefix}
use Rattle.mount_table.proofs.PartLemmas.{parts_fill}
use Rattle.gopass_base.proofs.JoinLemmas.{parts_join}
use Rattle.mount_table.proofs.FolderLemmas.{joined}

pub by_bytes : (outer inner : Text) (qs : List Text) → parts inner ≡ parts outer ++ qs → (inner ≡ outer) ⊎ ((more : Text) × (inner ≡ outer ++ 47 ∷ more))
by_bytes outer inner [] e = inl (sym (join_with_byte-slice_split 47 inner) ∙ (ap (join_with_byte 47) (e ∙ append-nil (parts outer)) ∙ join_with_byte-slice_split 47 outer))
by_bytes outer inner (q ∷ qs) e =
    inr (
      join_with_byte 47 (q ∷ qs),
      sym (join_with_byte-slice_split 47 inner) ∙ (ap (join_with_byte 47) e ∙ (joined (parts outer) q qs (parts_fill outer).0
          ∙ ap (λ t. t ++ 47 ∷ join_with_byte 47 (q ∷ qs)) (join_with_byte-slice_split 47 outer))),
    )

pub prefix_same : (outer inner rest : Text) → inner ≡ outer ++ rest → length rest ≡ 0 → IsPrefix (parts outer) (parts inner)
prefix_same outer inner [] e n = ([], ap parts (e ∙ append-nil outer) ∙ sym (append-nil (parts outer)))
prefix_same outer inner (b ∷ rest) e n = absurd (omega arith)

pub prefix_slash : (outer inner rest tail : Text) (r : Bool) → inner ≡ outer ++ rest → length rest ≢ 0 → (r ≡ true → rest ≡ (47 ∷ []) ++ tail) × ((more : Text) → rest ≡ (47 ∷ []) ++ more → r ≡ true) → IsTrue r ↔ IsPrefix (parts outer) (parts inner)
prefix_slash outer inner rest tail true e n h = (λ _. (parts tail, ap parts (e ∙ ap (λ t. outer ++ t) (h.0 refl)) ∙ parts_join outer tail), λ _. refl)
prefix_slash outer inner rest tail false e n h = (
  λ t. absurd (cc),
  λ (qs, whole). elim (by_bytes outer inner qs whole) [
    | inl same ↦ absurd (n (ap length (append_cancel_left outer rest [] (sym e ∙ (same ∙ sym (append-nil outer))))))
    | inr (more, m) ↦ h.1 more (append_cancel_left outer rest (47 ∷ more) (sym e ∙ m))
  ],
)

pub prefix_none : (outer inner : Text) → ((rest : Text) → inner ≢ outer ++ rest) → IsPrefix (parts outer) (parts inner) → ⊥
prefix_none outer inner h (qs, whole) = elim (by_bytes outer inner qs whole) [
  | inl same ↦ h [] (same ∙ sym (append-nil outer))
  | inr (more, m) ↦ h (47 ∷ more) m
]

-- the same of folders, of which the root has no parts
pub root_reaches : (outer inner : Text) → length outer ≡ 0 → IsPrefix (folder_parts outer) (folder_parts inner)
root_reaches [] inner e = (folder_parts inner, refl)
root_reaches (b ∷ outer) inner e = absurd (omega arith)

pub folder_reaches : (outer inner : Text) → length outer ≢ 0 → IsPrefix (parts outer) (parts inner) ↔ IsPrefix (folder_parts outer) (folder_parts inner)
folder_reaches [] inner n = absurd (n refl)
folder_reaches (b ∷ outer) (c ∷ inner) n = (λ p. p, λ p. p)
folder_reaches (b ∷ outer) [] n = (
  λ (qs, e). absurd (elim (by_bytes (b ∷ outer) [] qs e) as (λ s. ⊥) [
    | inl same ↦ (let l : 0 ≡ length (b ∷ outer) = ap length same in absurd (omega (arith, l)))
    | inr (more, m) ↦ (let l : 0 ≡ length ((b ∷ outer) ++ 47 ∷ more) = ap length m in absurd (omega (arith, l)))
  ]),
  λ (qs, e). absurd (omega (arith, ap length e, length-append (parts (b ∷ outer)) qs, (parts_fill (b ∷ outer)).0)),
)

pub tell : (r : Bool) (P Q : Type 0) → (IsTrue r ↔ P) → (P ↔ Q) → IsTrue r ↔ Q
tell r P Q h k = (λ t. k.0 (h.0 t), λ q. h.1 (k.1 q))
