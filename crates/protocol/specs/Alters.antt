-- What each thing that happens to a network alters, in the terms of an operator. Assumes nothing.
use Rattle.std.specs.Prelude.{◌≡◌, ℕ, ◌<◌, ◌⊎◌, ◌↔◌, List, [], ◌∷◌, ◌++◌, length, IsTrue, ◌≢◌}
use Rattle.layout.specs.Table.{Declared}
use Rattle.packets.specs.Best.{exit_of}
use Rattle.selection.specs.Laws.{Keeping}
use Rattle.sets.specs.Members.{member, Empty}
use Rattle.protocol.specs.Network.{State, set_of}
use Rattle.protocol.specs.Moves.{Move}
use Rattle.protocol.specs.Moves.Move.{Loaded, Injected, Withdrawn, Restarted, Activated}
use Rattle.protocol.specs.Plain.{Learns}
use Rattle.protocol.specs.Runs.{reached}

-- path q is injected
abbrev pub HasInjected : State → ℕ → Type 0
HasInjected s q = IsTrue (member s.injected q)

-- router v knows path q
abbrev pub Knows : State → ℕ → ℕ → Type 0
Knows s v q = IsTrue (member (set_of s.known v) q)

-- network x has table t, and nothing has happened on it
pub record Begins (t : Declared) (x : State) : Type 0 where
  pub table : x.table ≡ t
  pub injected : Empty x.injected
  pub known : (v : ℕ) → Empty (set_of x.known v)
  pub advertised : (v : ℕ) → Empty (set_of x.advertised v)

-- network s and what it is afterwards, x
module _ (kept : Keeping) (s x : State) where
  -- path q is injected then exactly if `InjectedThen q`; a router v that is concerned knows path q
  -- then exactly if `KnownThen v q`, and advertises what the rule keeps of what it knows; every other
  -- router knows and advertises what it did; the table stays
  pub record Alters (InjectedThen Concerned : ℕ → Type 0) (KnownThen : ℕ → ℕ → Type 0) : Type 0 where
    pub table : x.table ≡ s.table
    pub injected : (q : ℕ) → HasInjected x q ↔ InjectedThen q
    pub known : (v q : ℕ) → Concerned v → Knows x v q ↔ KnownThen v q
    pub advertised :
        (v : ℕ) → Concerned v → set_of x.advertised v ≡ kept s.table.paths (set_of x.known v)
    pub others_know : (v : ℕ) → ¬ Concerned v → set_of x.known v ≡ set_of s.known v
    pub others_advertise : (v : ℕ) → ¬ Concerned v → set_of x.advertised v ≡ set_of s.advertised v

  -- the network becomes x by what happens to it
  abbrev pub Becomes : Move → Type 0
  -- a table comes, and nothing stays of what was there
  Becomes (Loaded t) = Begins t x
  -- path p is injected as well, and its exit point knows it as well
  Becomes (Injected p) =
      Alters (λ q. (q ≡ p) ⊎ HasInjected s q) (λ v. v ≡ exit_of s.table p)
      (λ v q. (q ≡ p) ⊎ Knows s v q)
  -- path p is injected no more, and its exit point knows it no more
  Becomes (Withdrawn p) =
      Alters (λ q. (q ≢ p) × HasInjected s q) (λ v. v ≡ exit_of s.table p)
      (λ v q. (q ≢ p) × Knows s v q)
  -- router u restarts: of all paths it knows the injected ones of which it is the exit point
  Becomes (Restarted u) =
      Alters (HasInjected s) (λ v. v ≡ u)
      (λ v q. (q < length s.table.paths) × (exit_of s.table q ≡ v) × HasInjected s q)
  -- the routers of set w make a step at once: each knows what it learns from its peers as they stood
  Becomes (Activated w) =
      Alters (HasInjected s) (λ v. IsTrue (member w v))
      (λ v q. Learns s.table s.injected s.advertised v q)

-- and of all networks that have a set for each of 32 router numbers it becomes no other
pub record BecomesOnly (kept : Keeping) (s x : State) (m : Move) : Type 0 where
  pub becomes : Becomes kept s x m
  pub only :
      (y : State) → length y.known ≡ 32 → length y.advertised ≡ 32 → Becomes kept s y m → y ≡ x

-- all through a run, what happened made of the network just that
abbrev pub AllBecome : Keeping → List Move → Type 0
AllBecome kept history =
    (before : List Move) (m : Move) (later : List Move) → history ≡ before ++ (m ∷ later) →
    BecomesOnly kept (reached kept before) (reached kept (before ++ (m ∷ []))) m
