-- The children of a node, appended one after the other.
use Rattle.std.proofs.Common.{◌≡◌, ℕ, ◌+◌, ◌<◌, ◌≤◌, List, [], ◌∷◌, ◌++◌, length, map, replicate, sym, ◌∙◌, subst, arith, append_assoc}
use Rattle.std.proofs.lemmas.List.{append-nil}
use Rattle.prefix_model.specs.Keys.{KeyBits, low_bits}

module _ (w d : ℕ) (p : KeyBits) (keys : List KeyBits) (depths : List ℕ) where
  -- with these children of the node at p the queue has these keys and depths
  pub record Pushing (todo : List KeyBits) (ks : List KeyBits) (ds : List ℕ) : Type 0 where
    pub deep : 0 < length todo → d + 5 ≤ w
    pub keys_are : ks ++ map (λ c. p ++ c) todo ≡ keys
    pub depths_are : ds ++ replicate (length todo) (d + 5) ≡ depths

  pub pushed : (c : KeyBits) (todo ks : List KeyBits) (ds : List ℕ) → Pushing (c ∷ todo) ks ds → Pushing todo (ks ++ (p ++ c) ∷ []) (ds ++ (d + 5) ∷ [])
  pushed c todo ks ds h = record {
    deep = λ _. h.deep (omega arith);
    keys_are = append_assoc ks ((p ++ c) ∷ []) (map (λ c. p ++ c) todo) ∙ h.keys_are;
    depths_are = append_assoc ds ((d + 5) ∷ []) (replicate (length todo) (d + 5)) ∙ h.depths_are;
  }

  pub same_pushing : (todo ks other_ks : List KeyBits) (ds other_ds : List ℕ) → ks ≡ other_ks → ds ≡ other_ds → Pushing todo ks ds → Pushing todo other_ks other_ds
  same_pushing todo ks other_ks ds other_ds e f h = subst (λ k. Pushing todo k other_ds) e (subst (Pushing todo ks) f h)

module _ {w d : ℕ} {p : KeyBits} {keys : List KeyBits} {depths : List ℕ} where
  pub child_pushed : {b : ℕ} {bs all : List ℕ} {ks : List KeyBits} {ds : List ℕ} → all ≡ b ∷ bs → Pushing w d p keys depths (map (low_bits 5) all) ks ds → (next_ks : List KeyBits) (next_ds : List ℕ) → next_ks ≡ ks ++ (p ++ low_bits 5 b) ∷ [] → next_ds ≡ ds ++ (d + 5) ∷ [] → Pushing w d p keys depths (map (low_bits 5) bs) next_ks next_ds
  child_pushed {b} {bs} {all} {ks} {ds} e h next_ks next_ds f g =
      same_pushing w d p keys depths (map (low_bits 5) bs) (ks ++ (p ++ low_bits 5 b) ∷ []) next_ks (ds ++ (d + 5) ∷ []) next_ds (sym f) (sym g)
      (pushed w d p keys depths (low_bits 5 b) (map (low_bits 5) bs) ks ds (subst (λ bs. Pushing w d p keys depths (map (low_bits 5) bs) ks ds) e h))

  pub child_deep : {b : ℕ} {bs all : List ℕ} {ks : List KeyBits} {ds : List ℕ} → all ≡ b ∷ bs → Pushing w d p keys depths (map (low_bits 5) all) ks ds → d + 5 ≤ w
  child_deep {b} {bs} {all} {ks} {ds} e h = (subst (λ bs. Pushing w d p keys depths (map (low_bits 5) bs) ks ds) e h).deep (omega arith)

  pub all_pushed : {bs : List ℕ} {ks : List KeyBits} {ds : List ℕ} → bs ≡ [] → Pushing w d p keys depths (map (low_bits 5) bs) ks ds → (ks ≡ keys) × (ds ≡ depths)
  all_pushed {bs} {ks} {ds} e h =
      let none = subst (λ bs. Pushing w d p keys depths (map (low_bits 5) bs) ks ds) e h in
      (sym (append-nil ks) ∙ none.keys_are, sym (append-nil ds) ∙ none.depths_are)
