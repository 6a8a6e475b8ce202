-- How long the bytes of a sound table are. Assumes nothing.
use Rattle.std.proofs.Common.{◌≡◌, ℕ, ◌+◌, ◌*◌, ◌≤◌, List, [], ◌∷◌, length, take, sym, refl, ap, ◌∙◌, suc-mul, add_comm, zero-mul, arith}
use Rattle.std.specs.List.{flat_map}
use Rattle.std.proofs.lemmas.List.{length-append, length-take-le}
use Rattle.layout.specs.Encoding.{router_bytes, link_bytes, session_bytes, path_bytes, encoded}
use Rattle.layout.specs.Graph.{router_place}
use Rattle.layout.specs.Promise.{bytes_before}
use Rattle.layout.specs.Table.{Declared}
use Rattle.layout.specs.WellFormed.{Sound}
use Rattle.layout.specs.declared.router.Router.{Router}

pub length_joined : {X : Type 0} (f : X → List ℕ) (n : ℕ) → ((x : X) → length (f x) ≡ n) → (xs : List X) → length (flat_map f xs) ≡ length xs * n
length_joined f n each [] = sym (zero-mul n)
length_joined f n each (x ∷ xs) = length-append (f x) (flat_map f xs) ∙ ap (λ m. m + length (flat_map f xs)) (each x) ∙ ap (λ m. n + m) (length_joined f n each xs) ∙ add_comm n (length xs * n) ∙ sym (suc-mul (length xs) n)

-- a router's record begins at three bytes for each router before it
pub router_place_is : (routers : List Router) (v : ℕ) → v ≤ length routers → router_place v ≡ bytes_before routers v
router_place_is routers v within = omega (arith, length_joined router_bytes 3 (λ _. refl) (take v routers), length-take-le v routers within)

pub encoded_near : (t : Declared) → Sound t → length (encoded t) ≤ 2272
encoded_near t s =
    let routers = length_joined router_bytes 3 (λ _. refl) t.routers in
    let links = length_joined link_bytes 5 (λ _. refl) t.links in
    let sessions = length_joined session_bytes 3 (λ _. refl) t.sessions in
    let paths = length_joined path_bytes 21 (λ _. refl) t.paths in
    simp length-append (omega (arith, routers, links, sessions, paths, s.few_routers, s.few_links, s.few_sessions, s.few_paths))
