-- What is left of the input beside what the block holds of it.
use Rattle.std.proofs.Common.{◌≡◌, ℕ, List, [], ◌++◌, append_assoc, append-nil, sym, ap, ◌∙◌}
use Rattle.std.specs.Prelude.{Option, None}
use Rattle.std.proofs.lemmas.List.{append_cancel_right}
use Rattle.capture_feed.specs.Records.{Records, put}
use Rattle.capture_feed.specs.Reads.{Took}
use Rattle.capture_feed.specs.Answers.{Goes, HoldsNone}

-- what was held, and what was read, is what was taken and what is held
pub same_read : (held text now : List ℕ) {old new : List ℕ} (took : Took old new) → held ++ old ≡ text ++ (now ++ new) → held ++ took.prefix ≡ text ++ now
same_read held text now {old} {new} took e =
    append_cancel_right (held ++ took.prefix) (text ++ now) new
    (append_assoc held took.prefix new ∙ (ap (λ xs. held ++ xs) (sym took.is) ∙ (e ∙ sym (append_assoc text now new))))

-- a piece was taken off
pub goes_by : (before after : List ℕ → Records) (body : Option (List ℕ)) (held text now : List ℕ) {old new : List ℕ} → Took old new → held ++ old ≡ text ++ (now ++ new) →
    ((more : List ℕ) → before (text ++ more) ≡ put body (after more)) → Goes (λ left. before (held ++ left)) (λ left. after (now ++ left)) body old new
goes_by before after body held text now took e one = record {
  prefix = took.prefix;
  is = took.is;
  one = λ more.
      ap before (sym (append_assoc held took.prefix more) ∙ (ap (λ xs. xs ++ more) (same_read held text now took e) ∙ append_assoc text now more))
      ∙ one (now ++ more);
}

-- what was read so far holds no record
pub none_by : (before : List ℕ → Records) (held read : List ℕ) {old new : List ℕ} → Took old new → held ++ old ≡ read ++ new → (before read).bodies ≡ [] → HoldsNone (λ left. before (held ++ left)) old new
none_by before held read {old} {new} took e none = record {
  prefix = took.prefix;
  is = took.is;
  none =
      let same : held ++ took.prefix ≡ read = same_read held read [] took e ∙ append-nil read in
      ap (λ xs. (before xs).bodies) same ∙ none;
}

-- pieces without a record, and then another
pub Goes-then : {before mid after : List ℕ → Records} {body : Option (List ℕ)} {old now new : List ℕ} → Goes before mid None old now → Goes mid after body now new → Goes before after body old new
Goes-then {before} {mid} {after} {body} {old} {now} {new} p q = record {
  prefix = p.prefix ++ q.prefix;
  is = p.is ∙ (ap (λ xs. p.prefix ++ xs) q.is ∙ sym (append_assoc p.prefix q.prefix new));
  one = λ more. ap before (append_assoc p.prefix q.prefix more) ∙ (p.one (q.prefix ++ more) ∙ q.one more);
}

-- pieces without a record, and then the stop
pub stop-then : {before mid : List ℕ → Records} {old now : List ℕ} (found : Records) → Goes before mid None old now → mid now ≡ found → before old ≡ found
stop-then {before} {mid} {old} {now} found p e = ap before p.is ∙ (p.one now ∙ e)

-- and then nothing further
pub none-then : {before mid : List ℕ → Records} {old now new : List ℕ} → Goes before mid None old now → HoldsNone mid now new → HoldsNone before old new
none-then {before} {mid} {old} {now} {new} p q = record {
  prefix = p.prefix ++ q.prefix;
  is = p.is ∙ (ap (λ xs. p.prefix ++ xs) q.is ∙ sym (append_assoc p.prefix q.prefix new));
  none = ap (λ (r : Records). r.bodies) (p.one q.prefix) ∙ q.none;
}
