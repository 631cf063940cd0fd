-- What a run of reads comes to, whose last bytes aren't given to the talk yet.
use Rattle.std.proofs.Common.{◌≡◌, ℕ, ◌+◌, ◌<◌, ◌≤◌, ◌^◌, List, [], ◌++◌, length, Option, None, Some, subst, arith, length-append}
use Rattle.std.specs.Io.KnownBytes.{Appends, Consumes}
use Rattle.zk_talk.specs.{declared.limits.Limits.Limits, Held.Message}
use Rattle.zk_listings.specs.{declared.listing.Listing.Listing, declared.progress.Progress.Progress, declared.summary.Summary.Summary, Lines.text_of, Following.Opens, Gathered.SideBytes, Gathering.AdvancesBut, Gathering.ReachesBut}
use Rattle.zk_listings.specs.{Outcome.HasGrownIn, Running.HasBegunLines, Running.HasFoundBy, Running.HasReached}
use Rattle.zk_listings.proofs.{Bytes.Consumes-none, Bytes.Consumes-then, Feeding.grown-more, Feeding.grown-whole, Feeding.told-more, Found.found-decided, Found.reads, Found.running, Gathering.good-here-but}
use Rattle.zk_listings.proofs.Opened.{opens-finished, opens-later, opens-whole}

-- some bytes were read, at most so many, which come to this, and the lines of their messages were written
pub record HasRead (g : SideBytes) (limits : Limits) (listing : Listing) (p : Progress) (found : Option Summary) (unread unread_now contents contents_now : Option (List ℕ)) (most : ℕ) : Type 0 where
  pub bytes : List ℕ
  pub messages : List Message
  pub consumed : Consumes unread unread_now bytes
  pub reaches : ReachesBut g limits bytes messages p found
  pub size : length bytes ≤ most
  pub written : Appends contents contents_now (text_of listing messages)

-- their summary is known
pub found-read : (g : SideBytes) (limits : Limits) (listing : Listing) (p : Progress) (found : Option Summary) (unread unread_now contents contents_now : Option (List ℕ)) (most : ℕ) (summary : Summary) →
    HasRead g limits listing p found unread unread_now contents contents_now most → found ≡ Some summary → HasFoundBy limits listing unread unread_now contents contents_now p.talk summary
found-read g limits listing p found unread unread_now contents contents_now most summary r e =
    found-decided limits listing unread unread_now contents contents_now r.bytes r.messages p.talk summary r.consumed r.written (subst (ReachesBut g limits r.bytes r.messages p) e r.reaches)

opens-reached : (g : SideBytes) (limits : Limits) (x : List ℕ) (messages : List Message) (p : Progress) (found : Option Summary) → length x < 2 ^ 62 → ReachesBut g limits x messages p found → Opens limits x messages
opens-reached g limits x messages p None size i = opens-whole limits x messages i.recording i.at.spells (good-here-but g limits x messages p i size)
opens-reached g limits x messages p (Some summary) size i = opens-finished limits x messages p.talk summary i.finishes

-- the lines of what was read, where it opens a conversation
begun-by : (limits : Limits) (listing : Listing) (unread after contents later : Option (List ℕ)) (x : List ℕ) (messages : List Message) → Consumes unread after x → Opens limits x messages →
    HasGrownIn contents later (text_of listing messages) → HasBegunLines limits listing unread after contents later
begun-by limits listing unread after contents later x messages p o written =
    record { messages = messages; bytes = x; opens = o; reads = reads unread after x o.recording p o.spells; written = written }

-- it isn't
module _ (g : SideBytes) (limits : Limits) (listing : Listing) (p : Progress) (unread unread_now contents contents_now : Option (List ℕ)) (most : ℕ)
    (r : HasRead g limits listing p None unread unread_now contents contents_now most) (small : most + 65536 < 2 ^ 62) where
  size : length r.bytes < 2 ^ 62
  size = omega (arith, small, r.size)

  -- no more is read
  pub reached-but : (after : Option (List ℕ)) → Consumes unread after r.bytes → HasReached limits listing unread after contents contents_now
  reached-but after consumed = record {
    messages = r.messages;
    running = running limits unread after r.bytes r.messages r.reaches.recording consumed r.reaches.at.spells r.reaches.unbroken (good-here-but g limits r.bytes r.messages p r.reaches size);
    written = r.written;
  }

  opens-but : (more : List ℕ) → Opens limits (r.bytes ++ more) r.messages
  opens-but more =
      let f = r.reaches in
      opens-later limits r.bytes more r.messages f.recording p.talk f.has.0 f.at.spells f.headed f.has.2 (good-here-but g limits r.bytes r.messages p f size)

  -- more bytes were read, and none of them counts
  pub begun-more : (after : Option (List ℕ)) (more : List ℕ) → Consumes unread_now after more → HasBegunLines limits listing unread after contents contents_now
  begun-more after more consumed =
      begun-by limits listing unread after contents contents_now (r.bytes ++ more) r.messages (Consumes-then unread unread_now after r.bytes more r.consumed consumed) (opens-but more)
      (grown-whole contents contents_now _ r.written)

  pub begun-but : HasBegunLines limits listing unread unread_now contents contents_now
  begun-but = begun-more unread_now [] (Consumes-none unread_now)

  -- one more read
  module _ (now : SideBytes) (new : Progress) (found : Option Summary) (after later : Option (List ℕ)) (bytes lines lines_now slice : List ℕ) (short : length bytes ≤ 65536)
      (consumed : Consumes unread_now after bytes) (advances : AdvancesBut g listing p lines bytes found now new lines_now) (empty : lines ≡ []) (is : slice ≡ lines_now) where
    all-consumed : Consumes unread after (r.bytes ++ bytes)
    all-consumed = Consumes-then unread unread_now after r.bytes bytes r.consumed consumed

    come : (more : List Message) × ReachesBut now limits (r.bytes ++ bytes) (r.messages ++ more) new found × (lines_now ≡ lines ++ text_of listing more)
    come = advances limits r.bytes r.messages r.reaches (omega (arith, small, r.size, short))

    -- a front of its lines was written
    pub begun-further : HasGrownIn contents_now later slice → HasBegunLines limits listing unread after contents later
    begun-further grown =
        begun-by limits listing unread after contents later (r.bytes ++ bytes) (r.messages ++ come.0) all-consumed
        (opens-reached now limits (r.bytes ++ bytes) (r.messages ++ come.0) new found (omega (arith, small, r.size, short, length-append r.bytes bytes)) come.1)
        (grown-more listing contents contents_now later r.messages come.0 slice lines_now lines is come.2 empty r.written grown)

    pub read-more : (limit : ℕ) → most + 65536 ≤ limit → Appends contents_now later slice → HasRead now limits listing new found unread after contents later limit
    read-more limit less told = record {
      bytes = r.bytes ++ bytes;
      messages = r.messages ++ come.0;
      consumed = all-consumed;
      reaches = come.1;
      size = omega (arith, less, r.size, short, length-append r.bytes bytes);
      written = told-more listing contents contents_now later r.messages come.0 slice lines_now lines is come.2 empty r.written told;
    }
