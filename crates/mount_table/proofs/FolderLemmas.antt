-- A folder's parts begin a name's exactly where its bytes and a slash begin the name's bytes.
use Rattle.std.proofs.Common.{◌≡◌, ℕ, ◌<◌, List, [], ◌∷◌, ◌++◌, length, refl, ap, sym, ◌∙◌, append_assoc, subst, ◌≢◌, arith}
use Rattle.std.specs.List.{join_with_byte}
use Rattle.std.proofs.lemmas.List.{append_cancel_left}
use Rattle.std.proofs.lemmas.List.Splits.{join_with_byte-slice_split}
use Rattle.gopass_base.specs.Parts.{parts}
use Rattle.mount_table.specs.Prefixes.{IsProperPrefix, Holds}
use Rattle.gopass_base.proofs.JoinLemmas.{parts_join}
use Rattle.mount_table.proofs.PartLemmas.{parts_fill}

pub join-append : (c : ℕ) (p : List ℕ) (ps : List (List ℕ)) (q : List ℕ) (qs : List (List ℕ)) → join_with_byte c (p ∷ ps ++ q ∷ qs) ≡ join_with_byte c (p ∷ ps) ++ c ∷ join_with_byte c (q ∷ qs)
join-append c p [] q qs = refl
join-append c p (r ∷ ps) q qs = ap (λ t. p ++ (c ∷ t)) (join-append c r ps q qs) ∙ sym (append_assoc p (c ∷ join_with_byte c (r ∷ ps)) (c ∷ join_with_byte c (q ∷ qs)))

pub joined : (ps : List (List ℕ)) (q : List ℕ) (qs : List (List ℕ)) → 0 < length ps → join_with_byte 47 (ps ++ q ∷ qs) ≡ join_with_byte 47 ps ++ 47 ∷ join_with_byte 47 (q ∷ qs)
joined [] q qs h = absurd (omega arith)
joined (p ∷ ps) q qs h = join-append 47 p ps q qs

-- what the bytes show
pub holds_by_bytes : (b : ℕ) (f more : List ℕ) → Holds (b ∷ f) ((b ∷ f) ++ 47 ∷ more)
holds_by_bytes b f more = first (parts more) (parts_fill more).0 (parts_join (b ∷ f) more)
  where
    first : (qs : List (List ℕ)) → 0 < length qs → parts ((b ∷ f) ++ 47 ∷ more) ≡ parts (b ∷ f) ++ qs → IsProperPrefix (parts (b ∷ f)) (parts ((b ∷ f) ++ 47 ∷ more))
    first [] h e = absurd (omega arith)
    first (q ∷ qs) h e = (q, qs, e)

pub bytes_by_holds : (b : ℕ) (f name : List ℕ) → Holds (b ∷ f) name → (more : List ℕ) × (name ≡ (b ∷ f) ++ 47 ∷ more)
bytes_by_holds b f name (next, rest, e) = (
  join_with_byte 47 (next ∷ rest),
  sym (join_with_byte-slice_split 47 name) ∙ (ap (join_with_byte 47) e ∙ (joined (parts (b ∷ f)) next rest (parts_fill (b ∷ f)).0
      ∙ ap (λ t. t ++ 47 ∷ join_with_byte 47 (next ∷ rest)) (join_with_byte-slice_split 47 (b ∷ f)))),
)

pub root_holds : (name : List ℕ) → Holds [] name
root_holds name = first (parts name) (parts_fill name).0 refl
  where
    first : (qs : List (List ℕ)) → 0 < length qs → parts name ≡ qs → IsProperPrefix [] (parts name)
    first [] h e = absurd (omega arith)
    first (q ∷ qs) h e = (q, qs, e)

-- what is said of a folder that is not the root, by the bytes of the name behind it
pub record IsBelow (folder name rest : List ℕ) : Type 0 where
  pub yes : (more : List ℕ) → rest ≡ 47 ∷ more → Holds folder name
  pub no : ((more : List ℕ) → rest ≡ 47 ∷ more → ⊥) → Holds folder name → ⊥

pub below_of : (folder name rest : List ℕ) → length folder ≢ 0 → name ≡ folder ++ rest → IsBelow folder name rest
below_of [] name rest h e = absurd (h refl)
below_of (b ∷ f) name rest h e = record {
  yes = λ more m. subst (Holds (b ∷ f)) (sym (e ∙ ap (λ t. (b ∷ f) ++ t) m)) (holds_by_bytes b f more);
  no = λ other holds. (let (more, m) = bytes_by_holds b f name holds in other more (append_cancel_left (b ∷ f) rest (47 ∷ more) (sym e ∙ m)));
}

pub not_below : (folder name : List ℕ) → length folder ≢ 0 → ((rest : List ℕ) → name ≢ folder ++ rest) → Holds folder name → ⊥
not_below [] name h other holds = h refl
not_below (b ∷ f) name h other holds = let (more, m) = bytes_by_holds b f name holds in other (47 ∷ more) m

pub root_of : (folder name : List ℕ) → length folder ≡ 0 → Holds folder name
root_of [] name e = root_holds name
root_of (b ∷ f) name e = absurd (omega arith)
