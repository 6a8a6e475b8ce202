-- What is declared and injected is what the calls that were made say.
use Rattle.std.proofs.Common.{◌≡◌, ℕ, ◌⊎◌, List, [], ◌∷◌, length, All, Ok, Err, sym, refl, ap, ◌∙◌, subst, inl, inr}
use Rattle.std.specs.Prelude.{◌↔◌, IsTrue}
use Rattle.std.proofs.lemmas.Bool.{both_ways}
use Rattle.std.proofs.lemmas.List.Elements.{All-nil, All-cons, All-head, All-tail}
use Rattle.std.specs.Borrow.{Bor}
use Rattle.faults.specs.declared.call.CallFault.{CallFault}
use Rattle.layout.specs.Reading.{table_in}
use Rattle.layout.specs.Table.{Declared}
use Rattle.selection.specs.Laws.{Keeping, Laws}
use Rattle.sets.specs.Members.{member}
use Rattle.protocol.specs.Alters.{Becomes}
use Rattle.protocol.specs.Moves.{Move, after_all, all_of}
use Rattle.protocol.specs.Moves.Move.{Injected, Withdrawn}
use Rattle.protocol.specs.Network.{State}
use Rattle.protocol.specs.Runs.{AllCome}
use Rattle.protocol.proofs.Running.{Sane, come_front, come_back, all_sane, same_table}
use Rattle.protocol.proofs.Stretches.{same_injected}
use Rattle.calls.specs.Calls.{Coming, coming, answered}
use Rattle.calls.specs.History.{Told, Accepts, Loads, Ends, Stands, LastLoaded, IsMove}
use Rattle.calls.specs.History.Stands.{last, later}
use Rattle.calls.specs.History.LastLoaded.{last as last_load, later as later_load}
use Rattle.calls.specs.Turns.{World, of_moves, moves_of, answer_to, Run, next, turned, run}
use Rattle.calls.specs.declared.action.Action.{Action}
use Rattle.calls.specs.declared.action.Action.TheVariants.{Load, Inject, Withdraw, Restart, Step}
use Rattle.calls.specs.declared.answer.Answer.{Answer}
use Rattle.calls.specs.declared.answer.Answer.TheVariants.{Done, Refused}
use Rattle.calls.specs.declared.call.Call.{Call}
use Rattle.calls.specs.declared.call.Call.TheVariants.{Act, Settle, Reopen, Ask, Report}
use Rattle.calls.specs.declared.turn.Outcome.{Outcome}
use Rattle.calls.specs.declared.turn.Turn.{Turn}
use Rattle.calls.proofs.Appending.{rest_of, run_none, run_made}
use Rattle.calls.proofs.Doing.{acts}
use Rattle.calls.proofs.Rounding.{outcome_of, first_made, accepts}

module _ {kept : Keeping} (laws : Laws kept) (w : World) (t : Turn) where
  -- the call that is told is the one that was made
  told_call : (a : Action) (call : Call) → t.call ≡ call → Accepts a (turned kept w t) → call ≡ Act a
  told_call a call is h = sym is ∙ h.0

  -- one answer is told
  pub told_is : (answer other : Answer) → answer_to kept w t.call ≡ answer → Told other (turned kept w t) → answer ≡ other
  told_is answer other is h =
      let same : outcome_of kept w t ≡ h.0 = (let e = h.1 in cc) in
      sym is ∙ ap (λ (o : Outcome). o.answer) same ∙ h.2

  told_answer : (a : Action) → Accepts a (turned kept w t) → answer_to kept w t.call ≡ Done
  told_answer a h =
      told_is (answer_to kept w t.call) Done refl h.1

  -- a refused action is not told as accepted, nor is another call
  none_refused : (a : Action) (fault : CallFault) → answer_to kept w t.call ≡ Refused fault → Accepts a (turned kept w t) → ⊥
  none_refused a fault is h = let e = told_answer a h in let clash : ⊥ = cc in clash

  -- afterwards path q is injected just where it was injected by the call, or it was and the call did not end that
  abbrev After : ℕ → State → Type 0
  After q x = IsTrue (member x.injected q) ↔ (Accepts (Inject q) (turned kept w t) ⊎ (IsTrue (member w.network.injected q) × (Ends q (turned kept w t) → ⊥)))

  -- where the injected paths are the same and no call tells otherwise
  stays_so : (q : ℕ) (x : State) → (IsTrue (member x.injected q) ↔ IsTrue (member w.network.injected q)) → (Accepts (Inject q) (turned kept w t) → ⊥) → (Ends q (turned kept w t) → ⊥) → After q x
  stays_so q x same none never = (
    λ m. inr (same.0 m, never),
    λ h.
        elim h [
          | inl one ↦ absurd (none one)
          | inr was ↦ same.1 was.0
        ],
  )

  by_load : (q : ℕ) (bytes : Bor (List ℕ)) (m : Move) (x : State) → t.call ≡ Act (Load bytes) → Accepts (Load bytes) (turned kept w t) → IsMove (Load bytes) m → Becomes kept w.network x m → After q x
  by_load q bytes m x asks accepted is becomes =
      let begins = subst (Becomes kept w.network x) is.2 becomes in (
        λ has. absurd (both_ways _ (begins.injected q) has),
        λ h.
            elim h [
              | inl one ↦ absurd (let e = told_call (Inject q) (Act (Load bytes)) asks one in let clash : ⊥ = cc in clash)
              | inr was ↦ absurd (was.1 (inr (bytes, accepted)))
            ],
      )

  by_inject : (q p : ℕ) (x : State) → t.call ≡ Act (Inject p) → Accepts (Inject p) (turned kept w t) → Becomes kept w.network x (Injected p) → After q x
  by_inject q p x asks accepted becomes =
      let ends : Ends q (turned kept w t) → ⊥ = λ h.
      elim h [
        | inl one ↦ (let e = told_call (Withdraw q) (Act (Inject p)) asks one in let clash : ⊥ = cc in clash)
        | inr one ↦ (let e = told_call (Load one.0) (Act (Inject p)) asks one.1 in let clash : ⊥ = cc in clash)
      ] in (
        λ has.
            elim ((becomes.injected q).0 has) [
              | inl same ↦ inl (subst (λ (r : ℕ). Accepts (Inject r) (turned kept w t)) (sym same) accepted)
              | inr was ↦ inr (was, ends)
            ],
        λ h.
            (becomes.injected q).1
            (elim h [
              | inl one ↦ inl (let e = told_call (Inject q) (Act (Inject p)) asks one in cc)
              | inr was ↦ inr was.0
            ]),
      )

  by_withdraw : (q p : ℕ) (x : State) → t.call ≡ Act (Withdraw p) → Accepts (Withdraw p) (turned kept w t) → Becomes kept w.network x (Withdrawn p) → After q x
  by_withdraw q p x asks accepted becomes = (
    λ has.
        let h = (becomes.injected q).0 has in
        inr (
          h.1,
          λ ends.
              elim ends [
                | inl one ↦ h.0 (let e = told_call (Withdraw q) (Act (Withdraw p)) asks one in cc)
                | inr one ↦ (let e = told_call (Load one.0) (Act (Withdraw p)) asks one.1 in let clash : ⊥ = cc in clash)
              ],
        ),
    λ h.
        elim h [
          | inl one ↦ absurd (let e = told_call (Inject q) (Act (Withdraw p)) asks one in let clash : ⊥ = cc in clash)
          | inr was ↦ (becomes.injected q).1 (λ same. was.1 (inl (subst (λ (r : ℕ). Accepts (Withdraw r) (turned kept w t)) (sym same) accepted)), was.0)
        ],
  )

  -- of an accepted action
  by_action : (q : ℕ) (a : Action) (m : Move) (x : State) → t.call ≡ Act a → Accepts a (turned kept w t) → IsMove a m → Becomes kept w.network x m → After q x
  by_action q (Load bytes) m x asks accepted is becomes = by_load q bytes m x asks accepted is becomes
  by_action q (Inject p) m x asks accepted is becomes = by_inject q p x asks accepted (subst (Becomes kept w.network x) is becomes)
  by_action q (Withdraw p) m x asks accepted is becomes = by_withdraw q p x asks accepted (subst (Becomes kept w.network x) is becomes)
  by_action q (Restart v) m x asks accepted is becomes =
      stays_so q x ((subst (Becomes kept w.network x) is becomes).injected q)
      (λ one. let e = told_call (Inject q) (Act (Restart v)) asks one in let clash : ⊥ = cc in clash)
      (λ ends.
      elim ends [
        | inl one ↦ (let e = told_call (Withdraw q) (Act (Restart v)) asks one in let clash : ⊥ = cc in clash)
        | inr one ↦ (let e = told_call (Load one.0) (Act (Restart v)) asks one.1 in let clash : ⊥ = cc in clash)
      ])
  by_action q (Step set) m x asks accepted is becomes =
      stays_so q x ((subst (Becomes kept w.network x) is becomes).injected q)
      (λ one. let e = told_call (Inject q) (Act (Step set)) asks one in let clash : ⊥ = cc in clash)
      (λ ends.
      elim ends [
        | inl one ↦ (let e = told_call (Withdraw q) (Act (Step set)) asks one in let clash : ⊥ = cc in clash)
        | inr one ↦ (let e = told_call (Load one.0) (Act (Step set)) asks one.1 in let clash : ⊥ = cc in clash)
      ])

  -- of a call other than an accepted action
  no_action : (q : ℕ) → ((a : Action) → Accepts a (turned kept w t) → ⊥) → (x : State) → x.injected ≡ w.network.injected → After q x
  no_action q none x same =
      stays_so q x (λ m. ap (λ (i : ℕ). member i q) (sym same) ∙ m, λ m. ap (λ (i : ℕ). member i q) same ∙ m) (none (Inject q))
      (λ ends.
      elim ends [
        | inl one ↦ none (Withdraw q) one
        | inr one ↦ none (Load one.0) one.1
      ])

  not_told : (call : Call) → t.call ≡ call → ((a : Action) → call ≡ Act a → ⊥) → (a : Action) → Accepts a (turned kept w t) → ⊥
  not_told call asks other a h = other a (told_call a call asks h)

  module _ (sane : Sane laws w.network) (come : AllCome kept w.network (moves_of w.network t.call)) where
    by_coming : (q : ℕ) (a : Action) → t.call ≡ Act a → (c : Coming) → coming w.network a ≡ c → AllCome kept w.network (of_moves c) → After q (after_all kept w.network (of_moves c))
    unfolding after_all AllCome
    by_coming q a asks (Ok m) is comes =
        let done = acts laws w.network sane a (Ok m) is comes (λ fault e. cc) in
        by_action q a done.0 _ asks (accepts kept w t a m asks is) done.1 done.2
    by_coming q a asks (Err fault) is comes =
        no_action q (λ b. none_refused b fault (ap (answer_to kept w) asks ∙ ap (answered (λ (m : Move). Done)) is)) w.network refl

    once_by : (q : ℕ) (call : Call) → t.call ≡ call → AllCome kept w.network (moves_of w.network call) → After q (next kept w call).network
    unfolding after_all
    once_by q (Act a) asks comes = by_coming q a asks (coming w.network a) refl comes
    once_by q Settle asks comes = no_action q (not_told Settle asks (λ a e. let clash : ⊥ = cc in clash)) (next kept w Settle).network (same_injected kept (all_of (length w.network.table.routers) 7) w.network)
    once_by q Reopen asks comes = no_action q (not_told Reopen asks (λ a e. let clash : ⊥ = cc in clash)) w.network refl
    once_by q (Ask question) asks comes = no_action q (not_told (Ask question) asks (λ a e. let clash : ⊥ = cc in clash)) w.network refl
    once_by q (Report r part) asks comes = no_action q (not_told (Report r part) asks (λ a e. let clash : ⊥ = cc in clash)) w.network refl

    -- what one call does to the injected paths is what it tells
    pub once : (q : ℕ) → After q (next kept w t.call).network
    once q = once_by q t.call refl come

    -- the table is as it was where no load is told, and is the one of a load that is
    abbrev Declares : State → Type 0
    Declares x =
        ((Loads (turned kept w t) → ⊥) × (x.table ≡ w.network.table))
        ⊎ ((bytes : Bor (List ℕ)) × Accepts (Load bytes) (turned kept w t) × (table_in bytes.now ≡ Ok x.table))

    declares_action : (a : Action) (m : Move) (x : State) → t.call ≡ Act a → Accepts a (turned kept w t) → IsMove a m → Becomes kept w.network x m → Declares x
    declares_action (Load bytes) m x asks accepted is becomes =
        let begins = subst (Becomes kept w.network x) is.2 becomes in
        inr (bytes, accepted, is.1 ∙ ap (λ (d : Declared). Ok d) (sym begins.table))
    declares_action (Inject p) m x asks accepted is becomes =
        inl (λ h. let e = told_call (Load h.0) (Act (Inject p)) asks h.1 in let clash : ⊥ = cc in clash, (subst (Becomes kept w.network x) is becomes).table)
    declares_action (Withdraw p) m x asks accepted is becomes =
        inl (λ h. let e = told_call (Load h.0) (Act (Withdraw p)) asks h.1 in let clash : ⊥ = cc in clash, (subst (Becomes kept w.network x) is becomes).table)
    declares_action (Restart v) m x asks accepted is becomes =
        inl (λ h. let e = told_call (Load h.0) (Act (Restart v)) asks h.1 in let clash : ⊥ = cc in clash, (subst (Becomes kept w.network x) is becomes).table)
    declares_action (Step set) m x asks accepted is becomes =
        inl (λ h. let e = told_call (Load h.0) (Act (Step set)) asks h.1 in let clash : ⊥ = cc in clash, (subst (Becomes kept w.network x) is becomes).table)

    declares_coming : (a : Action) → t.call ≡ Act a → (c : Coming) → coming w.network a ≡ c → AllCome kept w.network (of_moves c) → Declares (after_all kept w.network (of_moves c))
    unfolding after_all AllCome
    declares_coming a asks (Ok m) is comes =
        let done = acts laws w.network sane a (Ok m) is comes (λ fault e. cc) in
        declares_action a done.0 _ asks (accepts kept w t a m asks is) done.1 done.2
    declares_coming a asks (Err fault) is comes =
        inl (λ h. none_refused (Load h.0) fault (ap (answer_to kept w) asks ∙ ap (answered (λ (m : Move). Done)) is) h.1, refl)

    declares_by : (call : Call) → t.call ≡ call → AllCome kept w.network (moves_of w.network call) → Declares (next kept w call).network
    unfolding after_all
    declares_by (Act a) asks comes = declares_coming a asks (coming w.network a) refl comes
    declares_by Settle asks comes =
        inl (λ h. not_told Settle asks (λ a e. let clash : ⊥ = cc in clash) (Load h.0) h.1, same_table kept (all_of (length w.network.table.routers) 7) w.network)
    declares_by Reopen asks comes = inl (λ h. not_told Reopen asks (λ a e. let clash : ⊥ = cc in clash) (Load h.0) h.1, refl)
    declares_by (Ask question) asks comes = inl (λ h. not_told (Ask question) asks (λ a e. let clash : ⊥ = cc in clash) (Load h.0) h.1, refl)
    declares_by (Report r part) asks comes = inl (λ h. not_told (Report r part) asks (λ a e. let clash : ⊥ = cc in clash) (Load h.0) h.1, refl)

    pub once_declared : Declares (next kept w t.call).network
    once_declared = declares_by t.call refl come

module _ {kept : Keeping} (laws : Laws kept) where
  module _ (q : ℕ) where
    abbrev Never : List Turn → Type 0
    Never = All (λ u. Ends q u → ⊥)

    -- what the calls behind a world say of path q
    abbrev Says : World → List Turn → Type 0
    Says w turns = Stands q turns ⊎ (IsTrue (member w.network.injected q) × Never turns)

    -- a call before them
    says_more : (w : World) (t : Turn) (x : World) (turns : List Turn) → After laws w t q x.network → Says x turns ↔ Says w (turned kept w t ∷ turns)
    says_more w t x turns after = (
      λ says.
          elim says [
            | inl stands ↦ inl (later stands)
            | inr there ↦
                elim (after.0 there.0) [
                  | inl one ↦ inl (last one there.1)
                  | inr was ↦ inr (was.0, All-cons (λ u. Ends q u → ⊥) (turned kept w t) turns was.1 there.1)
                ]
          ],
      λ says.
          elim says [
            | inl stands ↦ by_stands stands
            | inr was ↦ inr (after.1 (inr (was.0, All-head (λ u. Ends q u → ⊥) _ _ was.1)), All-tail (λ u. Ends q u → ⊥) _ _ was.1)
          ],
    )
      where
        by_stands : Stands q (turned kept w t ∷ turns) → Says x turns
        by_stands (last one never) = inr (after.1 (inl one), never)
        by_stands (later stands) = inl stands

    pub says_injected :
        (ts : List Turn) (w : World) → (run kept w ts).made ≡ length ts → Sane laws w.network → AllCome kept w.network (run kept w ts).moves →
        IsTrue (member (run kept w ts).world.network.injected q) ↔ Says w (run kept w ts).turns
    says_injected [] w made sane come =
        let none = run_none kept w in (
          λ m. inr (ap (λ (r : Run). member r.world.network.injected q) (sym none) ∙ m, subst Never (ap (λ (r : Run). r.turns) (sym none)) (All-nil (λ u. Ends q u → ⊥))),
          λ says.
              elim says [
                | inl stands ↦ absurd (nothing_stands (subst (Stands q) (ap (λ (r : Run). r.turns) none) stands))
                | inr was ↦ ap (λ (r : Run). member r.world.network.injected q) none ∙ was.0
              ],
        )
      where
        nothing_stands : Stands q [] → ⊥
        nothing_stands h = elim h [ ]
    says_injected (t ∷ ts) w made sane come =
        let h = first_made kept w t ts made in
        let first = run_made kept w t ts h.0 in
        let there = next kept w t.call in
        let comes = subst (AllCome kept w.network) (ap (λ (r : Run). r.moves) first) come in
        let here = come_front kept (moves_of w.network t.call) (rest_of kept w t ts).moves w.network comes in
        let sane_there = all_sane laws (moves_of w.network t.call) w.network sane here in
        let rest = says_injected ts there h.1 sane_there (come_back kept (moves_of w.network t.call) (rest_of kept w t ts).moves w.network comes) in
        let more = says_more w t there (rest_of kept w t ts).turns (once laws w t sane here q) in (
          λ m. subst (Says w) (ap (λ (r : Run). r.turns) (sym first)) (more.0 (rest.0 (ap (λ (r : Run). member r.world.network.injected q) (sym first) ∙ m))),
          λ says. ap (λ (r : Run). member r.world.network.injected q) first ∙ rest.1 (more.1 (subst (Says w) (ap (λ (r : Run). r.turns) first) says)),
        )

  -- the table that the calls behind a world say
  abbrev SaysTable : World → Declared → List Turn → Type 0
  SaysTable w d turns = (All (λ u. Loads u → ⊥) turns × (d ≡ w.network.table)) ⊎ LastLoaded d turns

  pub says_declared :
      (ts : List Turn) (w : World) → (run kept w ts).made ≡ length ts → Sane laws w.network → AllCome kept w.network (run kept w ts).moves →
      SaysTable w (run kept w ts).world.network.table (run kept w ts).turns
  says_declared [] w made sane come =
      let none = run_none kept w in
      inl (subst (All (λ u. Loads u → ⊥)) (ap (λ (r : Run). r.turns) (sym none)) (All-nil (λ u. Loads u → ⊥)), ap (λ (r : Run). r.world.network.table) none)
  says_declared (t ∷ ts) w made sane come =
      let h = first_made kept w t ts made in
      let first = run_made kept w t ts h.0 in
      let there = next kept w t.call in
      let comes = subst (AllCome kept w.network) (ap (λ (r : Run). r.moves) first) come in
      let here = come_front kept (moves_of w.network t.call) (rest_of kept w t ts).moves w.network comes in
      let sane_there = all_sane laws (moves_of w.network t.call) w.network sane here in
      let ends = (rest_of kept w t ts).world.network.table in
      let turns = (rest_of kept w t ts).turns in
      let told : SaysTable w ends (turned kept w t ∷ turns) =
      elim (says_declared ts there h.1 sane_there (come_back kept (moves_of w.network t.call) (rest_of kept w t ts).moves w.network comes)) [
        | inl same ↦
            elim (once_declared laws w t sane here) [
              | inl none ↦ inl (All-cons (λ u. Loads u → ⊥) (turned kept w t) turns none.0 same.0, same.1 ∙ none.1)
              | inr one ↦ inr (last_load one.0 one.1 (one.2 ∙ ap (λ (d : Declared). Ok d) (sym same.1)) same.0)
            ]
        | inr last_one ↦ inr (later_load last_one)
      ] in
      subst (λ (r : Run). SaysTable w r.world.network.table r.turns) (sym first) told
