use Rattle.std.proofs.Common.{sym, ◌≡◌, ◌∙◌, take, ap, get_or, [], ◌∷◌, ℕ, ◌+◌, List, true}
use Rattle.zk_recordings.specs.{declared.parts.Part.Part, Reader.Content, Reader.state_of, Parts.number, Parts.width, Parts.is_good, HeadLimits.limits_or, HeadLimits.profile_by, Reading.then_at}
use Rattle.zk_recordings.specs.declared.parts.Part.TheVariants.{Letters, ClientLimit, ServerLimit, Waiting, Profile, SideByte, Size}
use Rattle.zk_recordings.proofs.Accepts.{is-value, by-letters, by-client, by-server, by-waiting, by-profile, by-side, by-time, by-size, first-byte}
use Rattle.zk_recordings.proofs.recording.State.accept.Goals as goal

-- the part's bytes
value-of : (part q : Part) (bytes : List ℕ) → part ≡ q → take (width part) bytes ≡ take (width q) bytes
value-of part q bytes e = ap (λ p. take (width p) bytes) e

pub returns-in-Letters-clause-reads : goal.returns-in-Letters-clause-reads
returns-in-Letters-clause-reads c = λ x begun byte r again i has at'.
    let same = c.word.ensures ∙ sym (value-of c.args.part Letters c.args.bytes c.in-Letters.is) in
    by-letters (state_of c.args.self) begun _ byte x r again i has (state_of c.headed.result) c.args.part at' (is-value c.args.part c.args.bytes c.requires.eight c.requires.good) c.in-Letters.is
    (λ e. c.headed.ensures.first (same ∙ e)) (λ e. c.headed.ensures.second (same ∙ e))

pub returns-in-ClientLimit-clause-reads : goal.returns-in-ClientLimit-clause-reads
returns-in-ClientLimit-clause-reads c = λ x begun byte r again i has at'.
    let same = c.number-client.ensures ∙ ap number (sym (value-of c.args.part ClientLimit c.args.bytes c.in-ClientLimit.is)) in
    by-client (state_of c.args.self) begun _ byte x r again i has (state_of c.then.result) c.args.part at' (is-value c.args.part c.args.bytes c.requires.eight c.requires.good) c.in-ClientLimit.is
    (c.then.ensures ∙ ap (λ n. then_at (record (state_of c.args.self) { client = n }) ServerLimit 4) same)

pub returns-in-ServerLimit-clause-reads : goal.returns-in-ServerLimit-clause-reads
returns-in-ServerLimit-clause-reads c = λ x begun byte r again i has at'.
    let same = c.number-server.ensures ∙ ap number (sym (value-of c.args.part ServerLimit c.args.bytes c.in-ServerLimit.is)) in
    by-server (state_of c.args.self) begun _ byte x r again i has (state_of c.then-in-ServerLimit.result) c.args.part at' (is-value c.args.part c.args.bytes c.requires.eight c.requires.good) c.in-ServerLimit.is
    (c.then-in-ServerLimit.ensures ∙ ap (λ n. then_at (record (state_of c.args.self) { server = n }) Waiting 4) same)

pub returns-in-Waiting-clause-reads : goal.returns-in-Waiting-clause-reads
returns-in-Waiting-clause-reads c = λ x begun byte r again i has at'.
    let same = c.number-waiting.ensures ∙ ap number (sym (value-of c.args.part Waiting c.args.bytes c.in-Waiting.is)) in
    by-waiting (state_of c.args.self) begun _ byte x r again i has (state_of c.then-in-Waiting.result) c.args.part at' (is-value c.args.part c.args.bytes c.requires.eight c.requires.good) c.in-Waiting.is
    (c.then-in-Waiting.ensures ∙ ap (λ n. then_at (record (state_of c.args.self) { waiting = n }) Profile 4) same)

pub returns-in-Profile-clause-reads : goal.returns-in-Profile-clause-reads
returns-in-Profile-clause-reads c = λ x begun byte r again i has at'.
    let same = c.profile_of-profile.ensures ∙ ap profile_by (c.number.ensures ∙ ap number (sym (value-of c.args.part Profile c.args.bytes c.in-Profile.is))) in
    by-profile (state_of c.args.self) begun _ byte x r again i has (state_of c.then-in-Profile.result) c.args.part at' (is-value c.args.part c.args.bytes c.requires.eight c.requires.good) c.in-Profile.is
    c.head_limits-limits.result (λ options. c.head_limits-limits.ensures options ∙ ap (λ n. limits_or options c.args.self.client c.args.self.server c.args.self.waiting n) same) c.then-in-Profile.ensures

pub returns-in-SideByte-clause-reads : goal.returns-in-SideByte-clause-reads
returns-in-SideByte-clause-reads c = λ x begun byte r again i has at'.
    let same = value-of c.args.part SideByte c.args.bytes c.in-SideByte.is in
    let first = first-byte c.args.bytes c.requires.eight in
    let good : is_good SideByte (get_or c.args.bytes 0 0 ∷ []) ≡ true = sym (ap (is_good SideByte) first) ∙ sym (ap (λ p. is_good p (take (width p) c.args.bytes)) c.in-SideByte.is) ∙ c.requires.good in
    by-side (state_of c.args.self) begun _ byte x r again i has (state_of c.sided.result) c.args.part at' (is-value c.args.part c.args.bytes c.requires.eight c.requires.good) c.in-SideByte.is
    c.side_of.result (same ∙ first ∙ ap (λ b. b ∷ []) (sym (c.side_of.ensures good))) c.sided.ensures.first c.sided.ensures.second

pub returns-in-Time-clause-reads : goal.returns-in-Time-clause-reads
returns-in-Time-clause-reads c = λ x begun byte r again i has at'.
    by-time (state_of c.args.self) begun _ byte x r again i has (state_of c.then-in-Time.result) c.args.part at' (is-value c.args.part c.args.bytes c.requires.eight c.requires.good) c.in-Time.is c.then-in-Time.ensures

pub returns-in-Size-clause-reads : goal.returns-in-Size-clause-reads
returns-in-Size-clause-reads c = λ x begun byte r again i has at'.
    let same = c.number-in-Size.ensures ∙ ap number (sym (value-of c.args.part Size c.args.bytes c.in-Size.is)) in
    by-size (state_of c.args.self) begun _ byte x r again i has _ c.args.part at' (is-value c.args.part c.args.bytes c.requires.eight c.requires.good) c.in-Size.is
    (ap (λ n. record (state_of c.args.self) { at = c.args.self.at + 4; size = n; stage = Content 0 }) same)
