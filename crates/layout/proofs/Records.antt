-- The bytes of a record are its kind's byte and its body: from the body to what it declares, and back. Assumes nothing.
use Rattle.std.proofs.Common.{◌≡◌, ℕ, ◌+◌, ◌<◌, List, [], ◌∷◌, ◌++◌, length, All, sym, ap, ◌∙◌, ⊎_elim, arith}
use Rattle.std.proofs.lemmas.List.Elements.{All-get_or}
use Rattle.std.proofs.lemmas.Bool.{cases_eq}
use Rattle.layout.specs.Bodies.{byte, two, four, role_in, router_in, link_in, session_in, path_in}
use Rattle.layout.specs.Encoding.{two_bytes, four_bytes, role_byte, router_bytes, link_bytes, session_bytes, path_bytes}
use Rattle.layout.proofs.Numbers.{two_bytes_of, four_bytes_of, spelled}

-- every element is a byte
abbrev pub Bytes : List ℕ → Type 0
Bytes bs = All (λ b. b < 256) bs

role_byte_in : (b : ℕ) → b < 2 → role_byte (role_in b) ≡ b
role_byte_in b lt =
    ⊎_elim (λ e. ap (λ x. role_byte (role_in x)) e ∙ sym e) (λ ne. let z : b ≡ 0 = omega arith in ap (λ x. role_byte (role_in x)) z ∙ sym z) (cases_eq b 1)

module _ (body : List ℕ) (bytes : Bytes body) where
  pub at_byte : (i : ℕ) → i < length body → byte body i < 256
  at_byte i lt = All-get_or (λ b. b < 256) body i 0 lt bytes

  two_at : (i : ℕ) → i + 1 < length body → two_bytes (two body i) ≡ byte body i ∷ byte body (i + 1) ∷ []
  two_at i lt = two_bytes_of _ _ (at_byte i (omega arith)) (at_byte (i + 1) lt)

  four_at : (i : ℕ) → i + 3 < length body → four_bytes (four body i) ≡ byte body i ∷ byte body (i + 1) ∷ byte body (i + 2) ∷ byte body (i + 3) ∷ []
  four_at i lt = four_bytes_of _ _ _ _ (at_byte i (omega arith)) (at_byte (i + 1) (omega arith)) (at_byte (i + 2) (omega arith)) (at_byte (i + 3) lt)

  pub router_bytes_in : length body ≡ 2 → byte body 1 < 2 → router_bytes (router_in body) ≡ 1 ∷ body
  router_bytes_in long role = ap (λ x. 1 ∷ byte body 0 ∷ x ∷ []) (role_byte_in (byte body 1) role) ∙ ap (λ bs. 1 ∷ bs) (sym (spelled body 2 long))

  pub link_bytes_in : length body ≡ 4 → link_bytes (link_in body) ≡ 2 ∷ body
  link_bytes_in long = ap (λ x. 2 ∷ byte body 0 ∷ byte body 1 ∷ x) (two_at 2 (omega arith)) ∙ ap (λ bs. 2 ∷ bs) (sym (spelled body 4 long))

  pub session_bytes_in : length body ≡ 2 → session_bytes (session_in body) ≡ 3 ∷ body
  session_bytes_in long = ap (λ bs. 3 ∷ bs) (sym (spelled body 2 long))

  pub path_bytes_in : length body ≡ 20 → path_bytes (path_in body) ≡ 4 ∷ body
  path_bytes_in long =
      let neighbour = four_at 1 (omega arith) in
      let pref = four_at 5 (omega arith) in
      let med = four_at 10 (omega arith) in
      let cost = two_at 14 (omega arith) in
      let speaker = four_at 16 (omega arith) in
      (λ i. 4 ∷ byte body 0 ∷ (neighbour i ++ (pref i ++ (byte body 9 ∷ (med i ++ (cost i ++ speaker i)))))) ∙ ap (λ bs. 4 ∷ bs) (sym (spelled body 20 long))
