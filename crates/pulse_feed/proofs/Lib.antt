pub mod PulseFeeds
